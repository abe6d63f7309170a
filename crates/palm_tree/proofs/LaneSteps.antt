-- Spots of lanes, one level further down.
use Rattle.std.proofs.Common.{◌≡◌, ◌≢◌, ℕ, ◌+◌, ◌<◌, ◌≤◌, List, length, get_or, set, sym, subst, arith, ◌⊎◌, inl, inr, get_or-set_other, get_or-set_same}
use Rattle.std.proofs.lemmas.Bool.{cases_lt}
use Rattle.std.proofs.lemmas.List.{get_or_default}
use Rattle.palm_arena.specs.declared.place.Place.{Place}
use Rattle.palm_tree.specs.LookLanes.{EachSpot, IsFork, IsStep}
use Rattle.palm_tree.specs.declared.floor.Spot.{Spot}
use Rattle.palm_tree.specs.declared.look_ups.Lane.{Lane}

-- The spots at places below this one went down.
abbrev pub SteppedTo : List Place → List Lane → List Spot → List Spot → ℕ → Type 0
SteppedTo places lanes above below i =
    (k : ℕ) (lane : Lane) (old new : Spot) → k < i → IsStep places (get_or lanes k lane).key (get_or above k old) (get_or below k new)

-- The spots from this place on are as they were.
abbrev pub SameFrom : List Spot → List Spot → ℕ → Type 0
SameFrom above below i = (k : ℕ) (spot : Spot) → i ≤ k → get_or below k spot ≡ get_or above k spot

pub stepped_more : (places : List Place) (lanes : List Lane) (above below : List Spot) (i : ℕ) (lane : Lane) (old new : Spot)
    → SteppedTo places lanes above below i → SameFrom above below i → i < length lanes → i < length above → length below ≡ length above
    → IsStep places (get_or lanes i lane).key (get_or below i old) new → SteppedTo places lanes above (set below i new) (i + 1)
stepped_more places lanes above below i lane old new stepped same inside long even step k lane' old' new' less = by (cases_lt k i)
  where
    by : (k < i) ⊎ (i ≤ k) → IsStep places (get_or lanes k lane').key (get_or above k old') (get_or (set below i new) k new')
    by (inl before) =
        let apart : k ≢ i = omega arith in
        rw (get_or-set_other below i k new new' apart) (stepped k lane' old' new' before)
    by (inr past) =
        let here : i ≡ k = omega arith in
        subst (λ (j : ℕ). IsStep places (get_or lanes j lane').key (get_or above j old') (get_or (set below i new) j new')) here
        (rw (get_or-set_same below i new new' (omega arith), get_or_default lanes i lane' lane inside, get_or_default above i old' old long, ← same i old (omega arith)) step)

pub same_more : (above below : List Spot) (i : ℕ) (new : Spot) → SameFrom above below i → SameFrom above (set below i new) (i + 1)
same_more above below i new same k spot past =
    let apart : k ≢ i = omega arith in
    rw (get_or-set_other below i k new spot apart) (same k spot (omega arith))

-- An inner node stands at the spot that goes down next.
pub next_fork : (places : List Place) (lanes : List Lane) (above below : List Spot) (i : ℕ) (lane : Lane) (spot : Spot)
    → EachSpot (λ lane spot. IsFork places spot.id) lanes above → SameFrom above below i → i < length lanes → IsFork places (get_or below i spot).id
next_fork places lanes above below i lane spot forks same inside = subst (λ (s : Spot). IsFork places s.id) (sym (same i spot (omega arith))) (forks i lane spot inside)
