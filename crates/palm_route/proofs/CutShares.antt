-- Parts that are cut into shares, routed by share, and joined: they are the same parts, and each is at its leaf.
use Rattle.std.proofs.Common.{◌≡◌, ℕ, zero, suc, ◌+◌, ◌<◌, ◌≤◌, List, [], ◌∷◌, ◌++◌, length, get_or, map, take, drop, Option, Some, None, refl, sym, ap, subst, arith, ◌∙◌, inl, inr}
use Rattle.std.specs.Prelude.{slice_set}
use Rattle.std.specs.List.{AllByRecursion, AllZip, flat_map}
use Rattle.std.proofs.lemmas.List.{length-map, map-append, map-id, take-append-drop}
use Rattle.std.proofs.lemmas.List.Folds.{length-flat_map-take}
use Rattle.std.proofs.Math.Nat.{mul-le-mul_right, le-mul_of_pos_right, suc-mul}
use Rattle.std.proofs.lemmas.Bool.{cases_lt}
use Rattle.std.proofs.lemmas.Grind.{div_ceil_times}
use Rattle.palm_arena.specs.ArenaState.{ArenaState}
use Rattle.palm_arena.specs.declared.shape.Shape.{Shape}
use Rattle.palm_arena.specs.Leaves.{leaves_at}
use Rattle.palm_arena.specs.Reads.{map_of}
use Rattle.palm_share.specs.Jobs.{Holds, Relates}
use Rattle.palm_base.proofs.Every.{every_append}
use Rattle.palm_route.specs.declared.descent.DescentWork.{DescentWork}
use Rattle.palm_route.specs.declared.part.Part.{Part}
use Rattle.palm_route.specs.declared.part.Routed.{Routed}
use Rattle.palm_route.specs.Groups.{IsRoutedTo}
use Rattle.palm_route.specs.Shares.{HasRoom, share_size, AreCut, share_of, routed_of}

-- A share of parts for this tree, before its parts are routed.
abbrev pub Begins : ArenaState → Shape → DescentWork → Type 0
Begins arena shape work = (work.arena.now ≡ arena) × (work.shape ≡ shape) × HasRoom work

-- What is done with a share.
abbrev pub Ran : DescentWork → DescentWork → Type 0
Ran before after =
    (map (λ (one : Routed). one.part) after.routed.items ≡ before.parts.now)
    × AllByRecursion (IsRoutedTo (leaves_at (map_of before.arena.now.places) before.shape)) after.routed.items

-- Shares hold all parts.
cut_whole : (parts : List Part) (works : List (Option DescentWork)) → AreCut parts (map share_of works) → flat_map share_of works ≡ parts
cut_whole parts [] cut = sym cut
cut_whole parts (work ∷ works) cut =
    let size = share_size (length parts) (suc (length (map share_of works))) in
    rw (cut.0, cut_whole (drop size parts) works cut.1) (take-append-drop size parts)

-- The first share has no more parts than there are.
pub size_fits : (count shares : ℕ) → 0 < shares → share_size count shares ≤ count
size_fits count shares some = elim (cases_lt count (share_size count shares)) [
  | inl more ↦ absurd (let up = mul-le-mul_right shares more in omega (arith, up, suc-mul count shares, le-mul_of_pos_right count some, (div_ceil_times count shares some).1))
  | inr fits ↦ fits
]

-- The last share takes all that are left.
pub last_takes_all : (count : ℕ) → count ≤ share_size count 1
last_takes_all count = let all = (div_ceil_times count 1 (omega arith)).0 in omega (arith, all)

-- The routed parts of all shares are the parts before, each at its leaf.
same_parts : (before after : List (Option DescentWork)) → AllZip (Relates Ran) before after → map (λ (one : Routed). one.part) (flat_map routed_of after) ≡ flat_map share_of before
same_parts [] [] ran = refl
same_parts [] (work ∷ after) ran = absurd ran
same_parts (work ∷ before) [] ran = absurd ran
same_parts (None ∷ before) (other ∷ after) ran = absurd ran.0
same_parts (Some work ∷ before) (None ∷ after) ran = absurd ran.0
same_parts (Some work ∷ before) (Some other ∷ after) ran =
    map-append (λ (one : Routed). one.part) other.routed.items (flat_map routed_of after)
    ∙ ap (λ (l : List Part). l ++ map (λ (one : Routed). one.part) (flat_map routed_of after)) ran.0.0
    ∙ ap (λ (l : List Part). work.parts.now ++ l) (same_parts before after ran.1)

all_routed : (arena : ArenaState) (shape : Shape) (before after : List (Option DescentWork)) → AllByRecursion (Holds (Begins arena shape)) before → AllZip (Relates Ran) before after
    → AllByRecursion (IsRoutedTo (leaves_at (map_of arena.places) shape)) (flat_map routed_of after)
all_routed arena shape [] [] begin ran = tt
all_routed arena shape [] (work ∷ after) begin ran = absurd ran
all_routed arena shape (work ∷ before) [] begin ran = absurd ran
all_routed arena shape (None ∷ before) (other ∷ after) begin ran = absurd ran.0
all_routed arena shape (Some work ∷ before) (None ∷ after) begin ran = absurd ran.0
all_routed arena shape (Some work ∷ before) (Some other ∷ after) begin ran =
    let here : AllByRecursion (IsRoutedTo (leaves_at (map_of arena.places) shape)) other.routed.items = rw (begin.0.0, begin.0.1) at ran.0.1 in
    every_append (IsRoutedTo (leaves_at (map_of arena.places) shape)) other.routed.items (flat_map routed_of after) here (all_routed arena shape before after begin.1 ran.1)

pub record AreRouted (arena : ArenaState) (shape : Shape) (parts : List Part) (routed : List Routed) : Type 0 where
  pub same : map (λ (one : Routed). one.part) routed ≡ parts
  pub at_leaves : AllByRecursion (IsRoutedTo (leaves_at (map_of arena.places) shape)) routed

pub are_routed : (arena : ArenaState) (shape : Shape) (parts : List Part) (before after : List (Option DescentWork))
    → AreCut parts (map share_of before) → AllByRecursion (Holds (Begins arena shape)) before → AllZip (Relates Ran) before after
    → AreRouted arena shape parts (flat_map routed_of after)
are_routed arena shape parts before after cut begin ran = record {
  same = same_parts before after ran ∙ cut_whole parts before cut;
  at_leaves = all_routed arena shape before after begin ran;
}

-- There are as many routed parts as parts.
pub routed_count : (arena : ArenaState) (shape : Shape) (parts : List Part) (before after : List (Option DescentWork))
    → AreCut parts (map share_of before) → AllByRecursion (Holds (Begins arena shape)) before → AllZip (Relates Ran) before after → length (flat_map routed_of after) ≡ length parts
routed_count arena shape parts before after cut begin ran =
    sym (length-map (flat_map routed_of after) (λ (one : Routed). one.part)) ∙ ap length (are_routed arena shape parts before after cut begin ran).same

-- Writing over the last item.
pub last_set : {X : Type 0} (xs : List X) (x y : X) (n : ℕ) → n ≡ length xs → slice_set (xs ++ x ∷ []) n y ≡ xs ++ y ∷ []
last_set [] x y zero count = refl
last_set [] x y (suc n) count = absurd (omega (arith, count))
last_set (first ∷ xs) x y zero count = absurd (omega (arith, count))
last_set (first ∷ xs) x y (suc n) count = ap (λ (l : List _). first ∷ l) (last_set xs x y n (omega (arith, count)))

-- Reading it.
pub last_read : {X : Type 0} (xs : List X) (x d : X) (n : ℕ) → n ≡ length xs → get_or (xs ++ x ∷ []) n d ≡ x
last_read [] x d zero count = refl
last_read [] x d (suc n) count = absurd (omega (arith, count))
last_read (first ∷ xs) x d zero count = absurd (omega (arith, count))
last_read (first ∷ xs) x d (suc n) count = last_read xs x d n (omega (arith, count))

-- What the items so far and the next one hold is no more than what all of them hold.
pub next_fits : {X Y : Type 0} (f : X → List Y) (all now : List X) (x : X) → map (λ y. y) now ≡ take (length now) all → length now < length all → x ≡ get_or all (length now) x
    → length (flat_map f now) + length (f x) ≤ length (flat_map f all)
next_fits f all now x so_far less at =
    let same : now ≡ take (length now) all = sym (map-id now) ∙ so_far in
    subst (λ y. length (flat_map f now) + length (f y) ≤ length (flat_map f all)) (sym at)
    (subst (λ l. length (flat_map f l) + length (f (get_or all (length now) x)) ≤ length (flat_map f all)) (sym same) (length-flat_map-take f all (length now) x less))
