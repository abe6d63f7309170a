-- A list cut from its front on, a piece at a time.
use Rattle.std.proofs.Common.{◌≡◌, ℕ, zero, suc, ◌+◌, ◌-◌, ◌*◌, ◌/◌, ◌%◌, ◌<◌, ◌≤◌, false, cond, List, [], ◌∷◌, ◌++◌, length, take, drop, map, refl, sym, ap, subst, arith, ◌∙◌, ◌⊎◌, inl, inr, length-drop}
use Rattle.std.specs.Prelude.{nat_lt, ◌==◌}
use Rattle.std.specs.List.{AllByRecursion}
use Rattle.std.proofs.lemmas.Bool.{cases_lt, lt-ltb, le-ltb}
use Rattle.std.proofs.lemmas.Bool.Decides.{eqb_tells}
use Rattle.std.proofs.lemmas.List.{append-nil}
use Rattle.palm_base.specs.Cut.{piece_count, piece_size, even_pieces, cut}
use Rattle.palm_base.specs.Pass.{first_low, with_lows}
use Rattle.palm_base.specs.Lawful.{HasFromTo}
use Rattle.palm_base.proofs.Every.{every_at}
use Rattle.palm_base.proofs.Cuts.{cut_none, few_are_one_piece, pieces_are_wide}

-- The pieces that are left, where the first i of the pieces of t items are cut off.
abbrev pub pieces_left : {X : Type 0} → ℕ → ℕ → ℕ → List X → List (List X)
pieces_left width t i rest =
    let count = piece_count width t in
    even_pieces (count - i) (t % count - i) (t / count) rest

-- What is left has the items of the pieces that are left, none of which is empty or too wide.
pub record IsCutTo {X : Type 0} (width t i : ℕ) (rest : List X) : Type 0 where
  pub long : length rest ≡ (piece_count width t - i) * (t / piece_count width t) + (t % piece_count width t - i)
  pub few : t % piece_count width t - i ≤ piece_count width t - i
  pub fits : AllByRecursion (HasFromTo 1 width) (pieces_left width t i rest)

-- Each piece of a cut has an item, and no more than the width.
cut_fits : {X : Type 0} (half : ℕ) (items : List X) → 0 < half → AllByRecursion (HasFromTo 1 (half + half)) (cut (half + half) items)
cut_fits half [] some = rw (cut_none (half + half) (omega arith)) tt
cut_fits half (x ∷ items) some = by (cases_lt (half + half) (length (x ∷ items)))
  where
    by : (half + half < length (x ∷ items)) ⊎ (length (x ∷ items) ≤ half + half) → AllByRecursion (HasFromTo 1 (half + half)) (cut (half + half) (x ∷ items))
    by (inl many) =
        every_at (HasFromTo 1 (half + half)) (cut (half + half) (x ∷ items))
        (λ i piece at. let wide = pieces_are_wide half (x ∷ items) piece i some many at in (omega arith, wide.1))
    by (inr few) = rw (few_are_one_piece (half + half) (x ∷ items) (omega arith) few) ((omega arith, few), tt)

pub left_first : {X : Type 0} (width : ℕ) (items : List X) → pieces_left width (length items) 0 items ≡ cut width items
unfolding cut
left_first width items =
    let t = length items in
    let count : piece_count width t - 0 ≡ piece_count width t = omega arith in
    let more : t % piece_count width t - 0 ≡ t % piece_count width t = omega arith in
    rw (count, more) refl

left_step : {X : Type 0} (count more size i : ℕ) (rest : List X) → i < count
    → even_pieces (count - i) (more - i) size rest
    ≡ take (cond (nat_lt i more) (size + 1) size) rest ∷ even_pieces (count - (i + 1)) (more - (i + 1)) size (drop (cond (nat_lt i more) (size + 1) size) rest)
left_step count more size i rest less = by (cases_lt i more)
  where
    another : count - i ≡ suc (count - (i + 1))
    another = omega (arith, less)

    by : (i < more) ⊎ (more ≤ i)
        → even_pieces (count - i) (more - i) size rest
        ≡ take (cond (nat_lt i more) (size + 1) size) rest ∷ even_pieces (count - (i + 1)) (more - (i + 1)) size (drop (cond (nat_lt i more) (size + 1) size) rest)
    by (inl larger) =
        let over : more - i ≡ suc (more - (i + 1)) = omega arith in
        let one : size + 1 ≡ suc size = omega arith in
        rw (another, over, lt-ltb i more larger, one) refl
    by (inr even) =
        let none : more - i ≡ 0 = omega arith in
        let none_later : more - (i + 1) ≡ 0 = omega arith in
        rw (another, none, none_later, le-ltb i more even) refl

-- Before the last of so many pieces, counted under another name, some are left.
pub some_left : (i counted count : ℕ) → i < counted → counted ≡ count → i < count
some_left i counted count less same = omega (arith, less, same)

pub left_next : {X : Type 0} (width t i : ℕ) (rest : List X) → i < piece_count width t
    → pieces_left width t i rest ≡ take (piece_size width t i) rest ∷ pieces_left width t (i + 1) (drop (piece_size width t i) rest)
left_next width t i rest less = left_step (piece_count width t) (t % piece_count width t) (t / piece_count width t) i rest less

pub left_last : {X : Type 0} (width t i : ℕ) (rest : List X) → piece_count width t ≤ i → pieces_left width t i rest ≡ []
left_last width t i rest all =
    let none : piece_count width t - i ≡ 0 = omega arith in
    rw none refl

-- ---- how many items are left

long_step : (count more size i n : ℕ) → i < count → n ≡ (count - i) * size + (more - i) → more - i ≤ count - i
    → (cond (nat_lt i more) (size + 1) size ≤ n)
    × (n - cond (nat_lt i more) (size + 1) size ≡ (count - (i + 1)) * size + (more - (i + 1))) × (more - (i + 1) ≤ count - (i + 1))
long_step count more size i n less long few = by (cases_lt i more)
  where
    another : count - i ≡ suc (count - (i + 1))
    another = omega (arith, less)

    later : n ≡ size + (count - (i + 1)) * size + (more - i)
    later = long ∙ rw another (omega arith)

    by : (i < more) ⊎ (more ≤ i)
        → (cond (nat_lt i more) (size + 1) size ≤ n)
        × (n - cond (nat_lt i more) (size + 1) size ≡ (count - (i + 1)) * size + (more - (i + 1))) × (more - (i + 1) ≤ count - (i + 1))
    by (inl larger) = rw (lt-ltb i more larger) (omega (arith, later), omega (arith, later), omega (arith, few))
    by (inr even) = rw (le-ltb i more even) (omega (arith, later), omega (arith, later), omega (arith, less, few))

first_holds : (half t : ℕ) → 0 < half → t ≤ piece_count (half + half) t * (half + half)
first_holds half t some = omega arith

first_numbers : (width t count : ℕ) → t ≤ count * width → (t ≡ (count - 0) * (t / count) + (t % count - 0)) × (t % count - 0 ≤ count - 0)
first_numbers width zero zero hold = (omega arith, omega arith)
first_numbers width (suc t) zero hold = absurd (omega arith)
first_numbers width t (suc count) hold =
    let same : suc count - 0 ≡ suc count = omega arith in
    (rw same (omega arith), omega arith)

pub cut_first : {X : Type 0} (half : ℕ) (items : List X) → 0 < half → IsCutTo (half + half) (length items) 0 items
cut_first half items some =
    let t = length items in
    let numbers = first_numbers (half + half) t (piece_count (half + half) t) (first_holds half t some) in
    record {
      long = numbers.0;
      few = numbers.1;
      fits = subst (AllByRecursion (HasFromTo 1 (half + half))) (sym (left_first (half + half) items)) (cut_fits half items some);
    }

pub cut_next : {X : Type 0} (width t i : ℕ) (rest : List X) → i < piece_count width t → IsCutTo width t i rest
    → IsCutTo width t (i + 1) (drop (piece_size width t i) rest)
cut_next width t i rest less at =
    let step = long_step (piece_count width t) (t % piece_count width t) (t / piece_count width t) i (length rest) less at.long at.few in
    let split : AllByRecursion (HasFromTo 1 width) (take (piece_size width t i) rest ∷ pieces_left width t (i + 1) (drop (piece_size width t i) rest)) =
    subst (AllByRecursion (HasFromTo 1 width)) (left_next width t i rest less) at.fits in
    record {
      long = length-drop (piece_size width t i) rest ∙ step.1;
      few = step.2;
      fits = split.1;
    }

-- The next piece is within what is left, has an item, and no more than the width.
pub next_fits : {X : Type 0} (width t i : ℕ) (rest : List X) → i < piece_count width t → IsCutTo width t i rest
    → (piece_size width t i ≤ length rest) × HasFromTo 1 width (take (piece_size width t i) rest)
next_fits width t i rest less at =
    let step = long_step (piece_count width t) (t % piece_count width t) (t / piece_count width t) i (length rest) less at.long at.few in
    let split : AllByRecursion (HasFromTo 1 width) (take (piece_size width t i) rest ∷ pieces_left width t (i + 1) (drop (piece_size width t i) rest)) =
    subst (AllByRecursion (HasFromTo 1 width)) (left_next width t i rest less) at.fits in
    (step.0, split.0)

-- ---- the lows of nodes over pieces

-- The nodes over the parts that are left, with their lows: the first of all has the low 0.
abbrev pub later_nodes : {X Y : Type 0} → (X → ℕ) → (List X → Y) → List (ℕ × Y) → List (List X) → List (ℕ × Y)
later_nodes low node [] parts = with_lows low node 0 parts
later_nodes low node (child ∷ made) parts = map (λ later. (first_low low later, node later)) parts

-- The low of the next node.
abbrev pub next_own : {X Y : Type 0} → (X → ℕ) → List (ℕ × Y) → List X → ℕ
next_own low made part = cond (length made == 0) 0 (first_low low part)

later_same : {X Y : Type 0} (low : X → ℕ) (node : List X → Y) (made : List (ℕ × Y)) (child : ℕ × Y) (parts : List (List X))
    → later_nodes low node (made ++ child ∷ []) parts ≡ map (λ later. (first_low low later, node later)) parts
later_same low node [] child parts = refl
later_same low node (first ∷ made) child parts = refl

-- Where a low is that of the next node, its own may be another name for one.
pub own_low : (low first own count : ℕ) → low ≡ cond (count == 0) 0 first → first ≡ own → low ≡ cond (count == 0) 0 own
own_low low first own count is same = is ∙ ap (λ k. cond (count == 0) 0 k) same

some_made : (n : ℕ) → (suc n == 0) ≡ false
some_made n = elim (eqb_tells (suc n) 0) [ inl none ↦ absurd (omega (arith, none.1)) | inr some ↦ some.0 ]

later_cons : {X Y : Type 0} (low : X → ℕ) (node : List X → Y) (made : List (ℕ × Y)) (part : List X) (parts : List (List X))
    → later_nodes low node made (part ∷ parts) ≡ (next_own low made part, node part) ∷ map (λ later. (first_low low later, node later)) parts
later_cons low node [] part parts = refl
later_cons low node (first ∷ made) part parts = rw (some_made (length made)) refl

append_one : {Y : Type 0} (xs : List Y) (y : Y) (ys : List Y) → (xs ++ y ∷ []) ++ ys ≡ xs ++ y ∷ ys
append_one [] y ys = refl
append_one (x ∷ xs) y ys = ap (λ zs. x ∷ zs) (append_one xs y ys)

-- One node more is one fewer that is left.
pub nodes_next : {X Y : Type 0} (low : X → ℕ) (node : List X → Y) (made : List (ℕ × Y)) (part : List X) (parts : List (List X)) (all : List (ℕ × Y))
    → made ++ later_nodes low node made (part ∷ parts) ≡ all
    → (made ++ (next_own low made part, node part) ∷ []) ++ later_nodes low node (made ++ (next_own low made part, node part) ∷ []) parts ≡ all
nodes_next {Y} low node made part parts all e =
    let child : ℕ × Y = (next_own low made part, node part) in
    ap (λ (cs : List (ℕ × Y)). (made ++ child ∷ []) ++ cs) (later_same low node made child parts)
    ∙ append_one made child _
    ∙ ap (λ (cs : List (ℕ × Y)). made ++ cs) (sym (later_cons low node made part parts))
    ∙ e

none_later : {X Y : Type 0} (low : X → ℕ) (node : List X → Y) (made : List (ℕ × Y)) → later_nodes low node made [] ≡ []
none_later low node [] = refl
none_later low node (child ∷ made) = refl

pub nodes_last : {X Y : Type 0} (low : X → ℕ) (node : List X → Y) (made all : List (ℕ × Y)) → made ++ later_nodes low node made [] ≡ all → made ≡ all
nodes_last {Y} low node made all e = sym (append-nil made) ∙ ap (λ (cs : List (ℕ × Y)). made ++ cs) (sym (none_later low node made)) ∙ e
