-- The nodes that a list of ids with nodes has, and what it is that a map holds just these.
use Rattle.std.specs.Prelude.{◌≡◌, ◌≢◌, Bool, true, false, List, [], ◌∷◌, ◌++◌, Option, None, Some}
use Rattle.palm_node.specs.declared.id.NodeId.{NodeId}
use Rattle.palm_node.specs.declared.node.Node.{Node}
use Rattle.palm_arena.specs.Reads.{same_place}

-- What a list of nodes has at an id: none, one, or more than one. Where there is more than one it doesn't matter which.
-- So (0, a), (1, b), (1, c) have One a at 0, Several at 1 and Nothing at 2.
pub data Found : Type 0 where
  Nothing : Found
  One : Node → Found
  Several : Found

-- What two lists have together. So where each has one, it is several, be they the same.
abbrev pub both : Found → Found → Found
both Nothing other = other
both (One node) Nothing = One node
both (One node) (One other) = Several
both (One node) Several = Several
both Several other = Several

-- What a map has at an id: its node, where it is live.
-- So where a stands at 0 and nothing at 2, it is One a at 0, and Nothing at 2.
abbrev pub found : Option Node → Found
found None = Nothing
found (Some node) = One node

-- A node with the id that it stands at. So that of the leaf b at the place 1 is (1, b).
abbrev pub Cell : Type 0
Cell = NodeId × Node

-- What one cell has at an id, by whether the id is its own.
-- So the cell (1, b) has One b at 1, which is its own, and Nothing at 2.
abbrev pub found_if : Bool → Node → Found
found_if true node = One node
found_if false node = Nothing

-- What cells have at an id. So (0, a), (1, b) have a at 0 and nothing at 2, and (0, a), (0, a) have several at 0.
abbrev pub found_at : NodeId → List Cell → Found
found_at id [] = Nothing
found_at id (cell ∷ cells) = both (found_if (same_place cell.0 id) cell.1) (found_at id cells)

-- The live ids of a map with their nodes are these cells, each once. So those of a map with a at 0 and b at 1 are (1, b),
-- (0, a), and neither (0, a) alone nor (0, a), (1, b), (1, b).
abbrev pub Owns : (NodeId → Option Node) → List Cell → Type 0
Owns map cells = (id : NodeId) → found_at id cells ≡ found (map id)

-- A map holds these cells, each once, and may hold others. So one of a at 0 and b at 1 holds (1, b), and neither (1, a) nor
-- (1, b), (1, b).
abbrev pub HasCells : (NodeId → Option Node) → List Cell → Type 0
HasCells map cells = (others : List Cell) × Owns map (cells ++ others)

-- The same cells in another order. So (0, a), (1, b) and (1, b), (0, a) are.
abbrev pub SameCells : List Cell → List Cell → Type 0
SameCells cells others = (id : NodeId) → found_at id cells ≡ found_at id others

-- A map changes at one id, to this node or to none. So it does at 1 where b stood there and c does, and a stays at 0.
pub record ChangesAt (id : NodeId) (node : Option Node) (old new : NodeId → Option Node) : Type 0 where
  pub here : new id ≡ node
  pub elsewhere : (other : NodeId) → id ≢ other → new other ≡ old other

-- Some cells of a map become others, whatever else it has, which stays. So (1, b) becomes (1, c), (2, d) where c was written
-- at 1 and d put at 2.
abbrev pub Turns : (NodeId → Option Node) → (NodeId → Option Node) → List Cell → List Cell → Type 0
Turns old new before after = (others : List Cell) → Owns old (before ++ others) → Owns new (after ++ others)
