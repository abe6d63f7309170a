-- The leaves of a tree as it is built up.
use Rattle.std.specs.Prelude.{◌≡◌, ℕ, List, Option}
use Rattle.std.proofs.Common.{zero}
use Rattle.palm_base.specs.Pass.{leaves_of}
use Rattle.palm_base.specs.declared.row.Row.{Row}
use Rattle.palm_node.specs.declared.id.NodeId.{NodeId}
use Rattle.palm_node.specs.declared.id.Piece.{Piece}
use Rattle.palm_node.specs.declared.node.Node.{Node}
use Rattle.palm_arena.specs.Cells.{Owns}
use Rattle.palm_arena.specs.Placed.{Placed, values, bare, cells_under}

-- Pieces are the leaves that rows are cut into, each with its low, and a map holds these leaves and nothing else.
-- So of 17 rows they are two pieces, one of 9 rows at the low 0, and one of 8 at the key of the tenth row.
pub record AreLeaves (rows : List Row) (nodes : NodeId → Option Node) (pieces : List Piece) : Type 0 where
  pub leaves : List (ℕ × Placed zero)
  pub pieces-are : bare leaves ≡ pieces
  pub values-are : values zero leaves ≡ leaves_of 0 rows
  pub owned : Owns nodes (cells_under zero leaves)
