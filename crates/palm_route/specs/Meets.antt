-- The leaves that a List meets, as one would say it first.
use Rattle.std.specs.Prelude.{ℕ, ◌&&◌, nat_le, nat_lt, if◌then◌else◌, List, [], ◌∷◌}
use Rattle.palm_arena.specs.Leaves.{LeafPlace}

-- The leaves whose ranges have one of the keys from `from` to `to`: a leaf's range begins at its low and ends below the low
-- of the next leaf, and that of the last doesn't end.
-- So over the lows 0, 20 and 30 those from 10 to 25 are met by the first and the second.
abbrev pub leaves_met : ℕ → ℕ → List LeafPlace → List LeafPlace
leaves_met from to [] = []
leaves_met from to (place ∷ []) = if nat_le place.low to then place ∷ [] else []
leaves_met from to (place ∷ next ∷ places) =
    let later = leaves_met from to (next ∷ places) in
    if nat_lt from next.low && nat_le place.low to then place ∷ later else later

-- The least of the keys that the leaf has: the greater of `from` and the leaf's low. So of those from 10 on it is 10 in a
-- leaf that begins at 0, and 20 in one that begins at 20.
abbrev pub first_key : ℕ → LeafPlace → ℕ
first_key from place = if nat_lt from place.low then place.low else from
