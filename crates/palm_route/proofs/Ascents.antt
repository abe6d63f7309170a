-- Leaves whose ranges begin one after another, and to which of them a key goes.
use Rattle.std.proofs.Common.{◌≡◌, ℕ, ◌<◌, ◌≤◌, leb, cond, List, [], ◌∷◌, ◌++◌, Option, Some, refl, sym, ap, subst, arith}
use Rattle.std.specs.List.{AllByRecursion}
use Rattle.std.proofs.lemmas.Bool.{lt-leb, le-leb}
use Rattle.palm_arena.specs.Leaves.{LeafPlace, leaf_for}
use Rattle.palm_route.specs.Groups.{LowsRise}

-- The ranges begin at `low`, each before the next, and all below `high`. There is one at least.
abbrev pub Ascends : ℕ → ℕ → List LeafPlace → Type 0
Ascends low high [] = ⊥
Ascends low high (place ∷ []) = (place.low ≡ low) × (low < high)
Ascends low high (place ∷ next ∷ places) = (place.low ≡ low) × (low < next.low) × Ascends next.low high (next ∷ places)

pub first_low : (low high : ℕ) (place : LeafPlace) (places : List LeafPlace) → Ascends low high (place ∷ places) → place.low ≡ low
first_low low high place [] up = up.0
first_low low high place (next ∷ places) up = up.0

pub is_below : (low high : ℕ) (places : List LeafPlace) → Ascends low high places → low < high
is_below low high [] up = absurd up
is_below low high (place ∷ []) up = up.1
is_below low high (place ∷ next ∷ places) up = omega (arith, up.1, is_below next.low high (next ∷ places) up.2)

pub join : (low middle high : ℕ) (left right : List LeafPlace) → Ascends low middle left → Ascends middle high right → Ascends low high (left ++ right)
join low middle high [] right up more = absurd up
join low middle high (place ∷ []) [] up more = absurd more
join low middle high (place ∷ []) (next ∷ right) up more =
    let same : next.low ≡ middle = first_low middle high next right more in
    (up.0, omega (arith, up.1, same), subst (λ l. Ascends l high (next ∷ right)) (sym same) more)
join low middle high (place ∷ next ∷ left) right up more = (up.0, up.1, join next.low middle high (next ∷ left) right up.2 more)

-- A key below where the right ones begin goes to a left one.
pub goes_left : (k low middle high : ℕ) (left right : List LeafPlace) → Ascends low middle left → Ascends middle high right → k < middle
    → leaf_for k (left ++ right) ≡ leaf_for k left
goes_left k low middle high [] right up more less = absurd up
goes_left k low middle high (place ∷ []) [] up more less = absurd more
goes_left k low middle high (place ∷ []) (next ∷ right) up more less = rw (lt-leb next.low k (omega (arith, first_low middle high next right more))) refl
goes_left k low middle high (place ∷ next ∷ left) right up more less =
    ap (λ (later : Option LeafPlace). cond (leb next.low k) later (Some place)) (goes_left k next.low middle high (next ∷ left) right up.2 more less)

-- And one from there on goes to a right one.
pub goes_right : (k low middle high : ℕ) (left right : List LeafPlace) → Ascends low middle left → Ascends middle high right → middle ≤ k
    → leaf_for k (left ++ right) ≡ leaf_for k right
goes_right k low middle high [] right up more least = absurd up
goes_right k low middle high (place ∷ []) [] up more least = absurd more
goes_right k low middle high (place ∷ []) (next ∷ right) up more least = rw (le-leb next.low k (omega (arith, first_low middle high next right more))) refl
goes_right k low middle high (place ∷ next ∷ left) right up more least =
    rw (le-leb next.low k (omega (arith, is_below next.low middle (next ∷ left) up.2))) (goes_right k next.low middle high (next ∷ left) right up.2 more least)

-- Each low lies from `low` on and below `high`.
pub each_within : (low high : ℕ) (places : List LeafPlace) → Ascends low high places → (least : ℕ) → least ≤ low
    → AllByRecursion (λ (place : LeafPlace). (least ≤ place.low) × (place.low < high)) places
each_within low high [] up least le = absurd up
each_within low high (place ∷ []) up least le = ((omega (arith, up.0), omega (arith, up.0, up.1)), tt)
each_within low high (place ∷ next ∷ places) up least le =
    ((omega (arith, up.0), omega (arith, up.0, up.1, is_below next.low high (next ∷ places) up.2)), each_within next.low high (next ∷ places) up.2 least (omega (arith, up.1)))

each_above : (low high k : ℕ) (places : List LeafPlace) → k < low → Ascends low high places → AllByRecursion (λ (place : LeafPlace). k < place.low) places
each_above low high k [] less up = absurd up
each_above low high k (place ∷ []) less up = (omega (arith, up.0), tt)
each_above low high k (place ∷ next ∷ places) less up = (omega (arith, up.0), each_above next.low high k (next ∷ places) (omega (arith, up.1)) up.2)

pub rise : (low high : ℕ) (places : List LeafPlace) → Ascends low high places → LowsRise places
rise low high [] up = absurd up
rise low high (place ∷ []) up = (tt, tt)
rise low high (place ∷ next ∷ places) up =
    (each_above next.low high place.low (next ∷ places) (omega (arith, up.0, up.1)) up.2, rise next.low high (next ∷ places) up.2)
