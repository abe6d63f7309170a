-- Removed nodes, taken out of an arena with all that is under them.
use Rattle.std.specs.Prelude.{◌≡◌, ℕ, List, [], ◌∷◌, ◌++◌, map, take, drop, Option}
use Rattle.std.specs.List.{flat_map}
use Rattle.std.specs.List.Sorted.{IsPermutation}
use Rattle.std.proofs.Common.{zero, suc}
use Rattle.palm_base.specs.declared.row.Row.{Row}
use Rattle.palm_node.specs.declared.id.NodeId.{NodeId}
use Rattle.palm_node.specs.declared.node.Node.{Node}
use Rattle.palm_node.specs.declared.change.Changes.{Changes}
use Rattle.palm_arena.specs.Cells.{Cell, Owns}
use Rattle.palm_arena.specs.Placed.{Body, node_of}
use Rattle.palm_arena.specs.Standing.{Kept, kept_cells, kept_rows, removed_of}

-- A node so many levels above the leaves stands at an id with all that is under it, and else the map has these others. So a
-- leaf at id 3 stands there 0 levels above the leaves, with its own cell alone.
pub record StandsIn (nodes : NodeId → Option Node) (below : ℕ) (id : NodeId) (kept : Kept) (others : List Cell) : Type 0 where
  pub below-is : kept.below ≡ below
  pub id-is : kept.place.0 ≡ id
  pub owned : Owns nodes (kept_cells kept ++ others)

-- It is gone, and its rows stand behind those that were there. So where the row of 4 was there and the node has 1, 10, the rows
-- are 4, 1, 10.
pub record IsSwept (nodes : NodeId → Option Node) (before after : List Row) (kept : Kept) (others : List Cell) : Type 0 where
  pub owned : Owns nodes others
  pub rows : after ≡ before ++ kept_rows kept

-- The children of a node. So a leaf has none.
abbrev pub children_in : (n : ℕ) → Body n → List Kept
children_in zero rows = []
children_in (suc n) children = map (λ child. record { below = n; place = child.1 }) children

-- The children of a removed node. So those of a node over the leaves 3 and 4 are these, and a leaf has none.
abbrev pub kept_children : Kept → List Kept
kept_children kept = children_in kept.below kept.place.1

-- So many of its children are gone, and their rows stand behind those that were there.
pub record IsHalfSwept (nodes : NodeId → Option Node) (before after : List Row) (kept : Kept) (others : List Cell) (i : ℕ) : Type 0 where
  pub owned : Owns nodes ((kept.place.0, node_of kept.below kept.place.1) ∷ (flat_map kept_cells (drop i (kept_children kept)) ++ others))
  pub rows : after ≡ before ++ flat_map kept_rows (take i (kept_children kept))

-- So many of the nodes that were removed are gone, and their rows stand behind those that were there.
pub record AreSwept (nodes : NodeId → Option Node) (before after : List Row) (kept : List Kept) (others : List Cell) (i : ℕ) : Type 0 where
  pub owned : Owns nodes (flat_map kept_cells (drop i kept) ++ others)
  pub rows : after ≡ before ++ flat_map kept_rows (take i kept)

-- Changes name nodes that were removed, which a map holds with all that is under them, beside others; and the rows under them
-- with the loose rows of the changes are these, each once. So where the row of 2 is loose and a leaf of 10 was removed, they
-- are those of 2 and 10.
pub record HoldsRemoved (loose : List Row) (others : List Cell) (nodes : NodeId → Option Node) (changes : Changes) : Type 0 where
  pub kept : List Kept
  pub removed : changes.removed ≡ map removed_of kept
  pub loose-are : IsPermutation (changes.loose ++ flat_map kept_rows kept) loose
  pub owned : Owns nodes (flat_map kept_cells kept ++ others)
