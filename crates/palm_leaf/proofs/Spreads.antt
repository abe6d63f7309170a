-- A list that is spread over leaves keeps its items.
use Rattle.std.proofs.Common.{ℕ, ltb, leb, List, [], ◌∷◌}
use Rattle.std.specs.List.{filter, AllByRecursion}
use Rattle.palm_base.proofs.Every.{every_append, every_filter}
use Rattle.palm_leaf.specs.Spread.{spread}

-- What holds of each item holds of each of the spread list.
pub all_spread : {X : Type 0} (P : X → Type 0) (k : X → ℕ) (lows : List ℕ) (xs : List X) → AllByRecursion P xs → AllByRecursion P (spread k lows xs)
all_spread P k [] xs all = all
all_spread P k (low ∷ lows) xs all =
    every_append P (filter (λ x. ltb (k x) low) xs) (spread k lows (filter (λ x. leb low (k x)) xs)) (every_filter P P (λ x. ltb (k x) low) (λ x is passes. is) xs all)
    (all_spread P k lows (filter (λ x. leb low (k x)) xs) (every_filter P P (λ x. leb low (k x)) (λ x is passes. is) xs all))
