-- How many lows are at most a key, from one low to the next.
use Rattle.std.proofs.Common.{◌≡◌, ℕ, suc, ◌<◌, ◌≤◌, leb, cond, List, [], ◌∷◌, map, arith, ◌∙◌}
use Rattle.std.proofs.lemmas.Bool.{lt-leb, le-leb}
use Rattle.std.proofs.lemmas.List.Sums.{sum_by-cons}
use Rattle.palm_base.specs.Tree.{Subtree}
use Rattle.palm_base.specs.Lawful.{InOrder}
use Rattle.palm_arena.specs.Routes.{route_of}

-- A low that is at most the key is one more.
pub route_past : (k low : ℕ) (lows : List ℕ) → low ≤ k → route_of k (low ∷ lows) ≡ suc (route_of k lows)
route_past k low lows h = sum_by-cons (λ s. cond (leb s k) 1 0) low lows ∙ rw (le-leb low k h) (omega arith)

-- A low above the key is none.
pub route_before : (k low : ℕ) (lows : List ℕ) → k < low → route_of k (low ∷ lows) ≡ route_of k lows
route_before k low lows h = sum_by-cons (λ s. cond (leb s k) 1 0) low lows ∙ rw (lt-leb low k h) (omega arith)

-- No child of some in order begins at or below a key that is below them all.
pub route_none : (n k high : ℕ) (child : ℕ × Subtree n) (children : List (ℕ × Subtree n)) → k < child.0 → InOrder n child.0 high (child ∷ children) → route_of k (map (λ c. c.0) (child ∷ children)) ≡ 0
route_none n k high child [] less order = route_before k child.0 [] less
route_none n k high child (next ∷ children) less order =
    route_before k child.0 (map (λ c. c.0) (next ∷ children)) less ∙ route_none n k high next children (omega (arith, order.0.0)) order.1
