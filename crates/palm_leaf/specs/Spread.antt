-- A list as the leaves of a tree take it, from left to right.
use Rattle.std.specs.Prelude.{ℕ, nat_lt, nat_le, List, [], ◌∷◌, ◌++◌, filter}

-- A list spread over leaves, by a key of each item and the keys at which the ranges of the leaves past the first begin: the
-- items of the first leaf in their order, then those of the second, and so on.
-- So 25, 10, 20 spread over the leaves that begin at 0, 20 and 30, which is by the lows 20 and 30, are 10, 25, 20.
abbrev pub spread : {X : Type 0} → (X → ℕ) → List ℕ → List X → List X
spread k [] xs = xs
spread k (low ∷ lows) xs = filter (λ x. nat_lt (k x) low) xs ++ spread k lows (filter (λ x. nat_le low (k x)) xs)
