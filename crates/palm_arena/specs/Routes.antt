-- Which child of an inner node a key's row stands under.
use Rattle.std.specs.Prelude.{ℕ, nat_le, count_by, List, map, drop}

-- The separators of children: their lows, but that of the first. So those of (0, a), (19, b) are 19.
abbrev pub separators_of : {X : Type 0} → List (ℕ × X) → List ℕ
separators_of children = map (λ child. child.0) (drop 1 children)

-- How many separators are at most a key. So among 19, 28 the key 20 has one to its left.
abbrev pub route_of : ℕ → List ℕ → ℕ
route_of k separators = count_by (λ separator. nat_le separator k) separators
