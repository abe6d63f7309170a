-- What contracts see of a tree: the places where its nodes stand, and the tree that they read as.
use Rattle.std.specs.Prelude.{◌≡◌, ℕ, ◌-◌, List, [], length, Option, None, Some}
use Rattle.std.proofs.Common.{zero}
use Rattle.palm_base.specs.Tree.{Subtree, Tree, rows_of}
use Rattle.palm_base.specs.Lawful.{IsLawful}
use Rattle.palm_base.specs.Lows.{LowsAreKeys}
use Rattle.palm_node.specs.declared.id.NodeId.{NodeId}
use Rattle.palm_node.specs.declared.node.Node.TheVariants.{Leaf}
use Rattle.palm_arena.specs.ArenaState.{ArenaState, with_place, NoneLent}
use Rattle.palm_arena.specs.Reads.{map_of, reads, IsWhole}
use Rattle.palm_arena.specs.declared.place.Place.{Place}
use Rattle.palm_arena.specs.declared.place.Place.TheVariants.{Holds}
use Rattle.palm_arena.specs.declared.shape.Shape.{Shape}

-- A tree in its arena, with no batch under way. `places` is what stands at each place, which gives each live id its node;
-- `shape` the id of its root and how many levels it has; `moved` the ids that the latest batch lent or took, in order.
-- So of the tree of 44 at 5, after a batch that set this row in the leaf at the id 0, the places are one, which holds this
-- leaf, the shape is the root 0 and one level, and the moved ids are (0).
pub record TreeState : Type 0 where
  pub places : List Place
  pub shape : Shape
  pub moved : List NodeId

-- The tree of a node that was read so many levels above the leaves, and the empty one where nothing was. So a leaf with the row
-- of 44, read 0 levels above, is (0, this row).
abbrev pub tree_over : (n : ℕ) → Option (Subtree n) → Tree
tree_over n None = (zero, [])
tree_over n (Some root) = (n, root)

-- The tree that places read as at a shape, and the empty one where they read as none.
-- So the places of a leaf of 44 at 5 read as the tree of this row, at its id and one level.
abbrev pub tree_of : List Place → Shape → Tree
tree_of places shape = tree_over (shape.levels - 1) (reads (map_of places) (shape.levels - 1) shape.root)

-- The tree that a tree's places read as at its shape, without the ids. So the state above is that of the tree (0, the row of
-- 44 at 5).
abbrev pub tree_in : TreeState → Tree
tree_in state = tree_of state.places state.shape

-- The places of an empty leaf alone. So at the id 0 they are one place, which holds it.
abbrev pub leaf_alone : NodeId → List Place
leaf_alone id = with_place [] id (Holds (Leaf []))

-- An arena holds a tree of so many rows: no batch is under way and nothing is lent, each live node is in the tree once,
-- the tree is lawful, and its lows are keys of prefixes. So an arena of one place, with the leaf of 44 at 5, holds a tree of
-- one row.
pub record HoldsTree (arena : ArenaState) (shape : Shape) (rows : ℕ) : Type 0 where
  pub idle : arena.begun ≡ None
  pub none_lent : NoneLent arena.places
  pub whole : IsWhole (map_of arena.places) shape
  pub lawful : IsLawful (tree_of arena.places shape)
  pub lows : LowsAreKeys (tree_of arena.places shape)
  pub count : length (rows_of (tree_of arena.places shape)) ≡ rows
