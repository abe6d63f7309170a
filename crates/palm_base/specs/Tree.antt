-- A tree's value: what its nodes hold, without the places where they stand.
use Rattle.std.specs.Prelude.{ℕ, List}
use Rattle.std.specs.List.{flat_map}
use Rattle.std.proofs.Common.{zero, suc}
use Rattle.palm_base.specs.declared.row.Row.{Row}

-- A node with all that is under it, by how many levels stand below it: a leaf is its rows, and a node above leaves is
-- its children from left to right, each with its low. So a node over the leaves of 1, 10 and of 2 is the list of
-- (0, the rows of 1 and 10) and (the key of 2, the row of 2). All leaves stand at one depth, by this very form.
abbrev pub Subtree : ℕ → Type 0
Subtree zero = List Row
Subtree (suc n) = List (ℕ × Subtree n)

-- A tree: how many levels stand below its root, and its root with all that is under it. So an empty one is (0, []).
abbrev pub Tree : Type 0
Tree = (n : ℕ) × Subtree n

-- How many levels a tree has. A leaf alone is one level. So a root over leaves makes two.
abbrev pub levels_of : Tree → ℕ
levels_of tree = suc tree.0

-- The rows of a node's leaves, from left to right. So those under a node over the leaves of 1, 10 and of 2 are those of 1, 10,
-- 2.
abbrev pub rows_in : (n : ℕ) → Subtree n → List Row
rows_in zero rows = rows
rows_in (suc n) children = flat_map (λ child. rows_in n child.1) children

-- The rows of a tree. So the empty tree has none.
abbrev pub rows_of : Tree → List Row
rows_of tree = rows_in tree.0 tree.1
