-- Chains of items, each between its own low and the low of the next: wider, joined, parted and cut.
use Rattle.std.proofs.Common.{ℕ, ◌<◌, ◌≤◌, List, [], ◌∷◌, ◌++◌, arith}
use Rattle.std.specs.List.{flat_map, AllByRecursion}
use Rattle.palm_base.specs.Pass.{with_lows}
use Rattle.palm_base.specs.Lawful.{Chain, next_low, HasFromTo}

-- Items have lows and lie between bounds, which may be moved apart, and of which the first is the smaller.
module _ {X : Type 0} (low : X → ℕ) (Lies : ℕ → ℕ → X → Type 0)
    (wider : (l h l' h' : ℕ) (x : X) → Lies l h x → l' ≤ l → h ≤ h' → Lies l' h' x)
    (proper : (l h : ℕ) (x : X) → Lies l h x → l < h) where
  pub chain_wider : (l h l' h' : ℕ) (xs : List X) → Chain low Lies l h xs → l' ≤ l → h ≤ h' → Chain low Lies l' h' xs
  chain_wider l h l' h' [] chain left right = tt
  chain_wider l h l' h' (x ∷ []) chain left right = (wider l h l' h' x chain.0 left right, tt)
  chain_wider l h l' h' (x ∷ y ∷ ys) chain left right =
      (wider l (low y) l' (low y) x chain.0 left (omega arith), chain_wider (low y) h (low y) h' (y ∷ ys) chain.1 (omega arith) right)

  pub chain_proper : (l h : ℕ) (x : X) (xs : List X) → Chain low Lies l h (x ∷ xs) → l < h
  chain_proper l h x [] chain = proper l h x chain.0
  chain_proper l h x (y ∷ ys) chain =
      let first = proper l (low y) x chain.0 in
      let rest = chain_proper (low y) h y ys chain.1 in
      omega arith

  -- Two chains one after the other. Where the second has no items its next low is its upper bound.
  pub chain_join : (l m h : ℕ) (xs ys : List X) → Chain low Lies l m xs → Chain low Lies (next_low low h ys) h ys → l ≤ m
      → m ≤ next_low low h ys → Chain low Lies l h (xs ++ ys)
  chain_join l m h [] ys left right lm mh = chain_wider (next_low low h ys) h l h ys right (omega arith) (omega arith)
  chain_join l m h (x ∷ []) ys left right lm mh = (wider l m l (next_low low h ys) x left.0 (omega arith) mh, right)
  chain_join l m h (x ∷ y ∷ zs) ys left right lm mh =
      let between = chain_proper (low y) m y zs left.1 in
      (left.0, chain_join (low y) m h (y ∷ zs) ys left.1 right (omega arith) mh)

  -- The two parts of a chain, where the front has an item.
  pub chain_front : (l h : ℕ) (x : X) (xs ys : List X) → Chain low Lies l h (x ∷ xs ++ ys) → Chain low Lies l (next_low low h ys) (x ∷ xs)
  chain_front l h x [] ys chain = (chain.0, tt)
  chain_front l h x (y ∷ zs) ys chain = (chain.0, chain_front (low y) h y zs ys chain.1)

  pub chain_rest : (l h : ℕ) (x : X) (xs ys : List X) → Chain low Lies l h (x ∷ xs ++ ys) → Chain low Lies (next_low low h ys) h ys
  chain_rest l h x [] ys chain = chain.1
  chain_rest l h x (y ∷ zs) ys chain = chain_rest (low y) h y zs ys chain.1

  -- The parts of a chain, each under a node of its own, are a chain of nodes.
  module _ {Y : Type 0} (node : List X → Y) (Holds : ℕ → ℕ → Y → Type 0) (least most : ℕ) (some : 0 < least)
      (held : (l h : ℕ) (part : List X) → HasFromTo least most part → Chain low Lies l h part → Holds l h (node part)) where
    pub chain_with_lows : (first l h : ℕ) (parts : List (List X)) → AllByRecursion (HasFromTo least most) parts
        → Chain low Lies l h (flat_map (λ part. part) parts)
        → Chain (λ child. child.0) (λ l h child. (l < h) × Holds l h child.1) l h (with_lows low node first parts)
    chain_with_lows first l h [] sizes chain = tt
    chain_with_lows first l h ([] ∷ parts) sizes chain = absurd (omega arith)
    chain_with_lows first l h ((x ∷ xs) ∷ []) sizes chain =
        let front = chain_front l h x xs [] chain in
        ((chain_proper l h x xs front, held l h (x ∷ xs) sizes.0 front), tt)
    chain_with_lows first l h ((x ∷ xs) ∷ [] ∷ parts) sizes chain = absurd (omega arith)
    chain_with_lows first l h ((x ∷ xs) ∷ (y ∷ ys) ∷ parts) sizes chain =
        let front = chain_front l h x xs (y ∷ ys ++ flat_map (λ part. part) parts) chain in
        let rest = chain_rest l h x xs (y ∷ ys ++ flat_map (λ part. part) parts) chain in
        ((chain_proper l (low y) x xs front, held l (low y) (x ∷ xs) sizes.0 front), chain_with_lows (low y) (low y) h ((y ∷ ys) ∷ parts) sizes.1 rest)
