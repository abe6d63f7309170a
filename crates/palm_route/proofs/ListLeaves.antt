-- The leaves that a List meets, and the keys by which it is routed to them.
use Rattle.std.proofs.Common.{◌≡◌, ℕ, ◌<◌, ◌≤◌, Bool, true, false, cond, ◌&&◌, leb, ltb, List, [], ◌∷◌, map, filter, Some, refl, ap, arith, ◌⊎◌, inl, inr}
use Rattle.std.specs.List.{AllByRecursion}
use Rattle.std.proofs.lemmas.Bool.{cases_lt, lt-ltb, le-ltb, lt-leb, le-leb}
use Rattle.palm_arena.specs.Leaves.{LeafPlace, leaf_for, leaves_at}
use Rattle.palm_base.proofs.Every.{every_weaker}
use Rattle.palm_route.specs.Laws.{ListsMeetLeaves, KeysComeHome}
use Rattle.palm_route.specs.Meets.{leaves_met, first_key}
use Rattle.palm_route.specs.Parts.{lows_of, is_later}
use Rattle.palm_route.proofs.Ascents.{Ascends}
use Rattle.palm_route.proofs.Descents.{tree_ascends}

-- A leaf whose range begins above the first key is met by its own low, or not at all.
own_low : (from : ℕ) (place : LeafPlace) (b c : Bool) (lows : List ℕ) (met : List LeafPlace) → ltb from place.low ≡ true → c ≡ true → lows ≡ map (first_key from) met
    → cond (ltb from place.low && b) (place.low ∷ lows) lows ≡ map (first_key from) (cond (c && b) (place ∷ met) met)
own_low from place true c lows met e f rest = rw (f, e) (ap (λ (l : List ℕ). place.low ∷ l) rest)
own_low from place false c lows met e f rest = rw (f, e) rest

-- A leaf whose range has the first key is met by that key.
own_key : (from : ℕ) (place : LeafPlace) (b c : Bool) (lows : List ℕ) (met : List LeafPlace) → ltb from place.low ≡ false → b ≡ true → c ≡ true → lows ≡ map (first_key from) met
    → from ∷ cond (ltb from place.low && b) (place.low ∷ lows) lows ≡ map (first_key from) (cond (c && b) (place ∷ met) met)
own_key from place b c lows met e f g rest = rw (f, g, e) (ap (λ (l : List ℕ). from ∷ l) rest)

-- A leaf whose range ends at or below the first key is not met.
no_key : (from : ℕ) (place : LeafPlace) (b c : Bool) (lows : List ℕ) (met : List LeafPlace) → ltb from place.low ≡ false → c ≡ false → from ∷ lows ≡ map (first_key from) met
    → from ∷ cond (ltb from place.low && b) (place.low ∷ lows) lows ≡ map (first_key from) (cond (c && b) (place ∷ met) met)
no_key from place b c lows met e f rest = rw (e, f) rest

-- Where all ranges begin above the first key, the later lows are the leaves' own.
all_past : (from to low high : ℕ) (places : List LeafPlace) → Ascends low high places → from < low → filter (is_later from to) (lows_of places) ≡ map (first_key from) (leaves_met from to places)
all_past from to low high [] up past = absurd up
all_past from to low high (place ∷ []) up past = by (leb place.low to) (lt-ltb from place.low (omega (arith, up.0, past)))
  where
    by : (b : Bool) → ltb from place.low ≡ true → cond (ltb from place.low && b) (place.low ∷ []) [] ≡ map (first_key from) (cond b (place ∷ []) [])
    by true e = rw e refl
    by false e = rw e refl
all_past from to low high (place ∷ next ∷ places) up past =
    own_low from place (leb place.low to) (ltb from next.low) _ _ (lt-ltb from place.low (omega (arith, up.0, past))) (lt-ltb from next.low (omega (arith, up.1, past)))
    (all_past from to next.low high (next ∷ places) up.2 (omega (arith, up.1, past)))

-- Where the first range begins at or below it, the first of these keys is the key itself.
some_past : (from to low high : ℕ) (places : List LeafPlace) → Ascends low high places → low ≤ from → from ≤ to → from ∷ filter (is_later from to) (lows_of places) ≡ map (first_key from) (leaves_met from to places)
some_past from to low high [] up least within = absurd up
some_past from to low high (place ∷ []) up least within =
    rw (le-ltb from place.low (omega (arith, up.0, least)), le-leb place.low to (omega (arith, up.0, least, within))) (rw (le-ltb from place.low (omega (arith, up.0, least))) refl)
some_past from to low high (place ∷ next ∷ places) up least within = by (cases_lt from next.low) (some_past from to next.low high (next ∷ places) up.2)
  where
    by : (from < next.low) ⊎ (next.low ≤ from) → (next.low ≤ from → from ≤ to → from ∷ filter (is_later from to) (lows_of (next ∷ places)) ≡ map (first_key from) (leaves_met from to (next ∷ places)))
        → from ∷ filter (is_later from to) (lows_of (place ∷ next ∷ places)) ≡ map (first_key from) (leaves_met from to (place ∷ next ∷ places))
    by (inl less) rest =
        own_key from place (leb place.low to) (ltb from next.low) _ _ (le-ltb from place.low (omega (arith, up.0, least))) (le-leb place.low to (omega (arith, up.0, least, within)))
        (lt-ltb from next.low less) (all_past from to next.low high (next ∷ places) up.2 less)
    by (inr more) rest = no_key from place (leb place.low to) (ltb from next.low) _ _ (le-ltb from place.low (omega (arith, up.0, least))) (le-ltb from next.low more) (rest more within)

pub lists_meet_leaves : ListsMeetLeaves
lists_meet_leaves nodes shape from to has within =
    let up = tree_ascends nodes shape has in
    rw (le-leb from to within) (some_past from to 0 up.0 (leaves_at nodes shape) up.1 (omega arith) within)

-- ---- the way home

key_least : (from : ℕ) (place : LeafPlace) → place.low ≤ first_key from place
key_least from place = by (cases_lt from place.low)
  where
    by : (from < place.low) ⊎ (place.low ≤ from) → place.low ≤ first_key from place
    by (inl less) = rw (lt-ltb from place.low less) (omega arith)
    by (inr least) = rw (le-ltb from place.low least) least

key_below : (from n : ℕ) (place : LeafPlace) → from < n → place.low < n → first_key from place < n
key_below from n place before lower = by (cases_lt from place.low)
  where
    by : (from < place.low) ⊎ (place.low ≤ from) → first_key from place < n
    by (inl less) = rw (lt-ltb from place.low less) lower
    by (inr least) = rw (le-ltb from place.low least) before

-- A leaf is found by its key, which lies from `low` on.
IsFound : ℕ → ℕ → List LeafPlace → LeafPlace → Type 0
IsFound from low places place = (low ≤ first_key from place) × (leaf_for (first_key from place) places ≡ Some place)

found_later : (from low : ℕ) (first next : LeafPlace) (places : List LeafPlace) → low ≤ next.low → (place : LeafPlace) → IsFound from next.low (next ∷ places) place → IsFound from low (first ∷ next ∷ places) place
unfolding IsFound
found_later from low first next places le place found = (omega (arith, le, found.0), rw (le-leb next.low (first_key from place) found.0) found.1)

found_first : (from low : ℕ) (first next : LeafPlace) (places : List LeafPlace) → first.low ≡ low → from < next.low → low < next.low → IsFound from low (first ∷ next ∷ places) first
unfolding IsFound
found_first from low first next places at before up =
    (omega (arith, at, key_least from first), rw (lt-leb next.low (first_key from first) (key_below from next.low first before (omega (arith, at, up)))) refl)

all_found : (from to low high : ℕ) (places : List LeafPlace) → Ascends low high places → AllByRecursion (IsFound from low places) (leaves_met from to places)
unfolding IsFound
all_found from to low high [] up = absurd up
all_found from to low high (place ∷ []) up = by (leb place.low to)
  where
    by : (b : Bool) → AllByRecursion (IsFound from low (place ∷ [])) (cond b (place ∷ []) [])
    by true = ((omega (arith, up.0, key_least from place), refl), tt)
    by false = tt
all_found from to low high (place ∷ next ∷ places) up =
    by (cases_lt from next.low) (leb place.low to) (every_weaker (IsFound from next.low (next ∷ places)) (IsFound from low (place ∷ next ∷ places)) (found_later from low place next places (omega (arith, up.1, up.0))) (leaves_met from to (next ∷ places))
    (all_found from to next.low high (next ∷ places) up.2))
  where
    by : (from < next.low) ⊎ (next.low ≤ from) → (b : Bool) → AllByRecursion (IsFound from low (place ∷ next ∷ places)) (leaves_met from to (next ∷ places))
        → AllByRecursion (IsFound from low (place ∷ next ∷ places)) (cond (ltb from next.low && b) (place ∷ leaves_met from to (next ∷ places)) (leaves_met from to (next ∷ places)))
    by (inl less) true rest = rw (lt-ltb from next.low less) (found_first from low place next places up.0 less (omega (arith, up.1, up.0)), rest)
    by (inl less) false rest = rw (lt-ltb from next.low less) rest
    by (inr more) b rest = rw (le-ltb from next.low more) rest

pub keys_come_home : KeysComeHome
unfolding IsFound
keys_come_home nodes shape from to has =
    let up = tree_ascends nodes shape has in
    every_weaker (IsFound from 0 (leaves_at nodes shape)) (λ place. leaf_for (first_key from place) (leaves_at nodes shape) ≡ Some place) (λ place found. found.1) (leaves_met from to (leaves_at nodes shape))
    (all_found from to 0 up.0 (leaves_at nodes shape) up.1)
