-- What makes a tree lawful: how many rows and children its nodes have, and how their keys rise.
use Rattle.std.specs.Prelude.{◌≡◌, ℕ, ◌<◌, ◌≤◌, ◌⊎◌, List, [], ◌∷◌, length}
use Rattle.std.proofs.Common.{zero, suc}
use Rattle.palm_base.specs.Table.{row_key}
use Rattle.palm_base.specs.Tree.{Subtree, Tree}
use Rattle.palm_base.specs.declared.bounds.TheConstants.{LEAST_LEAF_ROWS, MOST_LEAF_ROWS, LEAST_CHILDREN, MOST_CHILDREN}
use Rattle.palm_base.specs.declared.row.Row.{Row}

-- There are from `least` to `most` items. So 8 to 16 rows are what a leaf below the root has.
abbrev pub HasFromTo : {X : Type 0} → ℕ → ℕ → List X → Type 0
HasFromTo least most items = (least ≤ length items) × (length items ≤ most)

-- A key lies from `low` on and below `high`. So 19 lies in 19 to 28, and 28 doesn't.
abbrev pub IsIn : ℕ → ℕ → ℕ → Type 0
IsIn low high k = (low ≤ k) × (k < high)

-- The row's key lies there. So that of 2 lies from the key of 19 on and below that of 28.
abbrev pub RowIsIn : ℕ → ℕ → Row → Type 0
RowIsIn low high row = IsIn low high (row_key row)

-- The low of the first item, or `high` where there is none. So before (7, b) it is 7, and at the end `high`.
abbrev pub next_low : {X : Type 0} → (X → ℕ) → ℕ → List X → ℕ
next_low low high [] = high
next_low low high (x ∷ xs) = low x

-- Items in order: each lies between its own low and the low of the next. The first lies from `first` on, whatever its
-- own low is, and the last lies below `high`. So the items with the lows 0, 19, 28 from 3 to 50 lie in 3 to 19, 19 to 28
-- and 28 to 50.
abbrev pub Chain : {X : Type 0} → (X → ℕ) → (ℕ → ℕ → X → Type 0) → ℕ → ℕ → List X → Type 0
Chain low Lies first high [] = Unit {0}
Chain low Lies first high (x ∷ xs) = Lies first (next_low low high xs) x × Chain low Lies (next_low low high xs) high xs

-- The keys of the rows strictly rise, from `first` on and below `high`. So 1, 10, 2 rise from 0 on and below the key of 3.
abbrev pub Rising : ℕ → ℕ → List Row → Type 0
Rising = Chain row_key RowIsIn

-- A node below the root, with all that is under it: a leaf has LEAST_LEAF_ROWS to MOST_LEAF_ROWS rows, which rise. An
-- inner node has LEAST_CHILDREN to MOST_CHILDREN children, the low of the first is written 0, the lows strictly rise,
-- and each row under a child has a key from the child's low on and below the low of the next. So a node over 8 leaves of
-- 8 rows is sound where each leaf's rows rise and lie between its low and the next.
abbrev pub Sound : (n : ℕ) → ℕ → ℕ → Subtree n → Type 0
Sound zero first high rows = HasFromTo LEAST_LEAF_ROWS MOST_LEAF_ROWS rows × Rising first high rows
Sound (suc n) first high children =
    HasFromTo LEAST_CHILDREN MOST_CHILDREN children × (next_low (λ child. child.0) 0 children ≡ 0)
    × Chain (λ child. child.0) (λ l h child. (l < h) × Sound n l h child.1) first high children

-- Children in order, between `first` and `high`: each has a range of its own, and is sound in it. So they may be the
-- children of a node, or pieces that have no node over them yet. `Sound` spells this out, since it is defined by itself.
abbrev pub InOrder : (n : ℕ) → ℕ → ℕ → List (ℕ × Subtree n) → Type 0
InOrder n = Chain (λ child. child.0) (λ l h child. (l < h) × Sound n l h child.1)

-- Pieces of one level over which a root can be put: at most one, or some in order. So a leaf alone is, of however few rows, and
-- beside another it has LEAST_LEAF_ROWS or more.
abbrev pub IsOrderly : (n : ℕ) → List (ℕ × Subtree n) → Type 0
IsOrderly n pieces = (length pieces ≤ 1) ⊎ ((high : ℕ) × InOrder n 0 high pieces)

-- A root whose keys lie below `high`: a leaf has at most MOST_LEAF_ROWS rows, and an inner root 2 to MOST_CHILDREN
-- children. So the empty leaf is a root, and an inner root has never one child.
abbrev pub Root : (n : ℕ) → ℕ → Subtree n → Type 0
Root zero high rows = (length rows ≤ MOST_LEAF_ROWS) × Rising 0 high rows
Root (suc n) high children = HasFromTo 2 MOST_CHILDREN children × (next_low (λ child. child.0) 0 children ≡ 0) × InOrder n 0 high children

-- A lawful tree: its keys lie below some number, and its root is one for it. That all leaves stand at one depth is said
-- by the form of a tree. So the empty leaf is a lawful tree, and a root over one leaf isn't.
abbrev pub IsLawful : Tree → Type 0
IsLawful tree = (high : ℕ) × Root tree.0 high tree.1
