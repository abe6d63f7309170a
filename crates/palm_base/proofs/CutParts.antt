-- The pieces of a cut, all at once: how wide they are, and that they are fewer than the items.
use Rattle.std.proofs.Common.{◌≡◌, ℕ, ◌+◌, ◌*◌, ◌<◌, ◌≤◌, false, List, [], ◌∷◌, length, refl, arith, ◌⊎◌, inl, inr}
use Rattle.std.specs.List.{AllByRecursion}
use Rattle.std.proofs.lemmas.Bool.{cases_lt, ltb-false, le-ltb}
use Rattle.std.proofs.Math.Nat.{mul-le-mul_right, mul-le-mul_left}
use Rattle.palm_base.specs.Cut.{piece_count, cut}
use Rattle.palm_base.specs.Pass.{is_small}
use Rattle.palm_base.specs.Lawful.{HasFromTo}
use Rattle.palm_base.proofs.Every.{every_at}
use Rattle.palm_base.proofs.Cuts.{needed, cut_none, few_are_one_piece, pieces_are_counted, pieces_are_wide}

-- A list of more items than the width is cut into pieces of half the width to the width.
pub cut_sizes : {X : Type 0} (half : ℕ) (items : List X) → 0 < half → half + half < length items
    → AllByRecursion (HasFromTo half (half + half)) (cut (half + half) items)
cut_sizes half items some many =
    every_at (HasFromTo half (half + half)) (cut (half + half) items) (λ i piece at. pieces_are_wide half items piece i some many at)

pub large : {X : Type 0} (least : ℕ) (items : List X) → least ≤ length items → is_small least items ≡ false
large least [] l = refl
large least (x ∷ items) l = le-ltb (length (x ∷ items)) least l

-- The same of any list that isn't too small for one node.
pub cut_parts : {X : Type 0} (half : ℕ) (items : List X) → 0 < half → is_small half items ≡ false
    → AllByRecursion (HasFromTo half (half + half)) (cut (half + half) items)
cut_parts half [] some enough = rw (cut_none (half + half) (omega arith)) tt
cut_parts half (x ∷ items) some enough = by (ltb-false (length (x ∷ items)) half enough) (cases_lt (half + half) (length (x ∷ items)))
  where
    by : half ≤ length (x ∷ items) → (half + half < length (x ∷ items)) ⊎ (length (x ∷ items) ≤ half + half)
        → AllByRecursion (HasFromTo half (half + half)) (cut (half + half) (x ∷ items))
    by least (inl many) = cut_sizes half (x ∷ items) some many
    by least (inr few) = rw (few_are_one_piece (half + half) (x ∷ items) (omega arith) few) ((least, few), tt)

fewer : (half t count : ℕ) → 0 < half → half + half < t → count * (half + half) < t + (half + half) → count < t
fewer half t count some many need = by (cases_lt count t)
  where
    by : (count < t) ⊎ (t ≤ count) → count < t
    by (inl less) = less
    by (inr least) =
        let all : t * (half + half) ≤ count * (half + half) = mul-le-mul_right (half + half) least in
        let each : t * 1 ≤ t * half = mul-le-mul_left t some in
        let one : 1 * half ≤ t * half = mul-le-mul_right half (omega arith) in
        absurd (omega arith)

-- A list of more items than the width has fewer pieces than items.
pub cut_fewer : {X : Type 0} (half : ℕ) (items : List X) → 0 < half → half + half < length items → length (cut (half + half) items) < length items
cut_fewer half items some many =
    rw (pieces_are_counted (half + half) items)
    (fewer half (length items) (piece_count (half + half) (length items)) some many (needed (half + half) (length items) (omega arith)))
