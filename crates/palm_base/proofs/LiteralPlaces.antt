-- Splitting the edits at each next low sends each to the last child whose low is at most its key.
use Rattle.std.proofs.Common.{◌≡◌, ℕ, ◌+◌, ◌<◌, ◌≤◌, Bool, true, false, cond, not, ◌&&◌, ◌==◌, nat_lt, nat_le, List, [], ◌∷◌, filter, refl, sym, ap, ◌∙◌, arith, ◌⊎◌, inl, inr}
use Rattle.std.specs.List.{AllByRecursion}
use Rattle.std.proofs.lemmas.Bool.{cases_lt, lt-ltb, le-ltb, lt-leb, le-leb, eq-eqb, ne_eqb}
use Rattle.std.proofs.lemmas.List.{append-nil}
use Rattle.std.proofs.lemmas.List.Elements.{filter_agree}
use Rattle.palm_base.specs.Tree.{Subtree}
use Rattle.palm_base.specs.Pass.{edit_key, goes_left, goes_right, Outcome, joined, below}
use Rattle.palm_base.specs.Literal.{has_low, last_place, by_place, LowsRise}
use Rattle.palm_base.specs.FurtherLaws.{EditsGoByPlace}
use Rattle.palm_base.specs.declared.call.Call.{Call}
use Rattle.palm_base.proofs.Filters.{filter_both}

-- ---- tests

filter_always : {X : Type 0} (test : X → Bool) → ((x : X) → test x ≡ true) → (xs : List X) → filter test xs ≡ xs
filter_always test passes [] = refl
filter_always test passes (x ∷ xs) = rw passes (ap (λ rest. x ∷ rest) (filter_always test passes xs))

-- ---- lows that rise

none_has : {X : Type 0} (k : ℕ) (children : List (ℕ × X)) → AllByRecursion (λ child. k < child.0) children → has_low k children ≡ false
none_has k [] above = refl
none_has k (child ∷ children) above = rw (lt-leb child.0 k above.0) (none_has k children above.1)

above_all : {X : Type 0} (k low : ℕ) (children : List (ℕ × X)) → k < low → AllByRecursion (λ child. low < child.0) children
    → AllByRecursion (λ child. k < child.0) children
above_all k low [] less above = tt
above_all k low (child ∷ children) less above = (omega (arith, above.0), above_all k low children less above.1)

-- Where lows rise, some is at most k exactly where the first is.
first_has : {X : Type 0} (k : ℕ) (child : ℕ × X) (children : List (ℕ × X)) → LowsRise (child ∷ children)
    → has_low k (child ∷ children) ≡ nat_le child.0 k
first_has k child children rise = by (cases_lt k child.0)
  where
    by : (k < child.0) ⊎ (child.0 ≤ k) → has_low k (child ∷ children) ≡ nat_le child.0 k
    by (inl less) = rw (lt-leb child.0 k less) (none_has k children (above_all k child.0 children less rise.0))
    by (inr least) = rw (le-leb child.0 k least) refl

left_is_not_right : (low k : ℕ) → nat_lt k low ≡ not (nat_le low k)
left_is_not_right low k = by (cases_lt k low)
  where
    by : (k < low) ⊎ (low ≤ k) → nat_lt k low ≡ not (nat_le low k)
    by (inl less) = rw (lt-ltb k low less, lt-leb low k less) refl
    by (inr least) = rw (le-ltb k low least, le-leb low k least) refl

-- ---- places

-- Where a test says which edits go on, and places count on by one, children from the next place on get the same edits.
places_shift : (n : ℕ) (go : ℕ → Subtree n → List Call → Outcome n) (place_of later_of : Call → ℕ) (goes_on : Call → Bool)
    → ((i : ℕ) (edit : Call) → (place_of edit == i + 1) ≡ (goes_on edit && (later_of edit == i)))
    → (i : ℕ) (children : List (ℕ × Subtree n)) (edits : List Call)
    → by_place n go place_of (i + 1) children edits ≡ by_place n go later_of i children (filter goes_on edits)
places_shift n go place_of later_of goes_on shift i [] edits = refl
places_shift n go place_of later_of goes_on shift i (child ∷ children) edits =
    rw (
      filter_both (λ edit. place_of edit == i + 1) goes_on (λ edit. later_of edit == i) (shift i) edits,
      places_shift n go place_of later_of goes_on shift (i + 1) children edits,
    ) refl

stays_here : (some : Bool) (later : ℕ) → (cond some (later + 1) 0 == 0) ≡ not some
stays_here true later = ne_eqb (later + 1) 0 (λ same. omega arith)
stays_here false later = refl

goes_on_by_one : (some : Bool) (later i : ℕ) → (cond some (later + 1) 0 == i + 1) ≡ (some && (later == i))
goes_on_by_one true later i = by (cases_lt later i) (cases_lt i later)
  where
    by : (later < i) ⊎ (i ≤ later) → (i < later) ⊎ (later ≤ i) → (later + 1 == i + 1) ≡ (later == i)
    by (inl less) other = rw (ne_eqb (later + 1) (i + 1) (λ same. omega arith), ne_eqb later i (λ same. omega arith)) refl
    by (inr least) (inl more) = rw (ne_eqb (later + 1) (i + 1) (λ same. omega arith), ne_eqb later i (λ same. omega arith)) refl
    by (inr least) (inr most) = rw (eq-eqb (later + 1) (i + 1) (omega arith), eq-eqb later i (omega arith)) refl
goes_on_by_one false later i = ne_eqb 0 (i + 1) (λ same. omega arith)

joined_none : {n : ℕ} (left : Outcome n) → joined left (record { pieces = []; loose = [] }) ≡ left
joined_none left = rw (append-nil left.pieces, append-nil left.loose) refl

pub edits_go_by_place : EditsGoByPlace
edits_go_by_place n go [] edits rise = refl
edits_go_by_place n go (child ∷ []) edits rise =
    let here : Call → Bool = λ edit. last_place (edit_key edit) (child ∷ []) == 0 in
    sym (joined_none (go child.0 child.1 (filter here edits)) ∙ ap (go child.0 child.1) (filter_always here (λ edit. refl) edits))
edits_go_by_place n go (child ∷ next ∷ children) edits rise =
    let m = next.0 in
    let place_of : Call → ℕ = λ edit. last_place (edit_key edit) (child ∷ next ∷ children) in
    let later_of : Call → ℕ = λ edit. last_place (edit_key edit) (next ∷ children) in
    let some : Call → Bool = λ edit. has_low (edit_key edit) (next ∷ children) in
    let some_is : (edit : Call) → some edit ≡ goes_right m edit = λ edit. first_has (edit_key edit) next children rise.1 in
    let here : (edit : Call) → goes_left m edit ≡ (place_of edit == 0) =
    (λ edit. left_is_not_right m (edit_key edit) ∙ ap not (sym (some_is edit)) ∙ sym (stays_here (some edit) (later_of edit))) in
    let on : (i : ℕ) (edit : Call) → (place_of edit == i + 1) ≡ (goes_right m edit && (later_of edit == i)) =
    (λ i edit. goes_on_by_one (some edit) (later_of edit) i ∙ ap (λ goes. goes && (later_of edit == i)) (some_is edit)) in
    let first = filter_agree (goes_left m) (λ edit. place_of edit == 0) here edits in
    let rest = edits_go_by_place n go (next ∷ children) (filter (goes_right m) edits) rise.1 in
    let shift = places_shift n go place_of later_of (goes_right m) on 0 (next ∷ children) edits in
    ap (λ part. joined (go child.0 child.1 part) (below n go (next ∷ children) (filter (goes_right m) edits))) first
    ∙ ap (joined (go child.0 child.1 (filter (λ edit. place_of edit == 0) edits))) (rest ∙ sym shift)
