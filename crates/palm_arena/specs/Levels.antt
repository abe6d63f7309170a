-- The levels of nodes over pieces, up to the one that is the root.
use Rattle.std.specs.Prelude.{◌≡◌, ◌≤◌, ◌+◌, ◌*◌, ◌⊎◌, ℕ, List, [], ◌∷◌, ◌++◌, length, map, Option}
use Rattle.palm_base.specs.Tree.{Tree}
use Rattle.palm_base.specs.Cut.{piece_count}
use Rattle.palm_base.specs.declared.bounds.TheConstants.{MOST_CHILDREN}
use Rattle.palm_base.specs.Lawful.{IsOrderly}
use Rattle.palm_base.specs.Pass.{nodes_over, top}
use Rattle.palm_node.specs.declared.id.NodeId.{NodeId}
use Rattle.palm_node.specs.declared.id.Piece.{Piece}
use Rattle.palm_node.specs.declared.node.Node.{Node}
use Rattle.palm_node.specs.declared.node.Node.TheVariants.{Inner}
use Rattle.palm_arena.specs.Cells.{Cell, Owns, Turns}
use Rattle.palm_arena.specs.Placed.{Placed, values, bare, cells_under}
use Rattle.palm_arena.specs.Routes.{separators_of}

-- A piece by its low and its id. So that of the low 7 and the id 6 is (7, 6).
abbrev pub pair_of : Piece → ℕ × NodeId
pair_of piece = (piece.low, piece.id)

-- The nodes over pieces, each with its low: those that they are cut into, by the lows and ids of their children.
-- So 17 pieces make a node over 9 of them with the low 0, and one over 8 with the low of the tenth piece.
abbrev pub nodes_of : List Piece → List (ℕ × List (ℕ × NodeId))
nodes_of pieces = nodes_over 0 (map pair_of pieces)

-- Nodes under ids, as pieces. So (0, a), (20, b) under 1 and 2 are (0, 1), (20, 2).
abbrev pub pieces_of : {X : Type 0} → List NodeId → List (ℕ × X) → List Piece
pieces_of [] nodes = []
pieces_of (id ∷ ids) [] = []
pieces_of (id ∷ ids) (node ∷ nodes) = record { low = node.0; id = id } ∷ pieces_of ids nodes

-- Nodes under ids, as cells. So a node over (0, 5), (7, 6) under 2 is the cell of 2 with the children 5, 6 and the separator 7.
abbrev pub cells_at : List NodeId → List (ℕ × List (ℕ × NodeId)) → List Cell
cells_at [] nodes = []
cells_at (id ∷ ids) [] = []
cells_at (id ∷ ids) (node ∷ nodes) = (id, Inner (record { children = map (λ child. child.1) node.1; separators = separators_of node.1 })) ∷ cells_at ids nodes

-- The nodes over the pieces of a level were put into a map, and these pieces stand for them.
-- So where the two nodes over 17 pieces, the tenth of which has the low 90, were put at 20 and 21, they are (0, 20), (90, 21).
pub record IsTaken (level made : List Piece) (old new : NodeId → Option Node) : Type 0 where
  pub ids : List NodeId
  pub many : length ids ≡ length (nodes_of level)
  pub pieces : made ≡ pieces_of ids (nodes_of level)
  pub turns : Turns old new [] (cells_at ids (nodes_of level))

-- Pieces are a level so many levels above the leaves: they stand for children in order, or for one alone, over which the tree
-- is this one; and a map holds them with all that is under them, beside others.
-- So where the leaves a and b of 8 rows stand at 1 and 2, those of a below 20 and those of b from 20 on, (0, 1), (20, 2) are
-- one with no level below, and the tree is the root over (0, a), (20, b).
pub record IsLevel (tree : Tree) (others : List Cell) (nodes : NodeId → Option Node) (below : ℕ) (level : List Piece) : Type 0 where
  pub n : ℕ
  pub below-is : below ≡ n
  pub children : List (ℕ × Placed n)
  pub pieces : bare children ≡ level
  pub same : top n (values n children) ≡ tree
  pub orderly : IsOrderly n (values n children)
  pub owned : Owns nodes (cells_under n children ++ others)

-- How many steps a level of so many pieces takes up to its root: none where it is the root, and else fewer than twice as many as
-- it has nodes over it. So 17 pieces, which have two nodes over them, and the root over these, take three.
abbrev pub HasRaised : ℕ → ℕ → ℕ → Type 0
HasRaised count before after = ((count ≤ 1) × (after ≤ before)) ⊎ ((2 ≤ count) × (after + 1 ≤ before + 2 * piece_count MOST_CHILDREN count))
