-- The touched nodes of a level by their ids alone: what they were, and what stands for them.
use Rattle.std.specs.Prelude.{ℕ, Bool, true, false, ◌&&◌, if◌then◌else◌, List, [], ◌∷◌, ◌++◌, slice_index_or, Option, None, Some}
use Rattle.palm_base.specs.Cut.{cut}
use Rattle.palm_base.specs.Pass.{with_lows, is_small}
use Rattle.palm_base.specs.declared.bounds.TheConstants.{LEAST_CHILDREN, MOST_CHILDREN}
use Rattle.palm_node.specs.InnerNode.{InnerNode, inner_over}
use Rattle.palm_node.specs.declared.id.NodeId.{NodeId}
use Rattle.palm_node.specs.declared.id.Piece.{Piece}
use Rattle.palm_node.specs.declared.node.Node.{Node}
use Rattle.palm_node.specs.declared.node.Node.TheVariants.{Inner}
use Rattle.palm_node.specs.declared.change.Change.{Change}
use Rattle.palm_node.specs.declared.change.Removed.{Removed}
use Rattle.palm_arena.specs.Cells.{Cell}
use Rattle.palm_arena.specs.Reads.{same_place, inner_in}
use Rattle.palm_level.specs.Splices.{last_step, path_above, children_left}
use Rattle.palm_level.specs.Runs.{parent_of}

-- A node whose children changed: its id, the way to it, its low, and the changes of its children. So for the node 3, which is
-- the child 1 of the root 0 and has the low 20, with its leaf 7 cut in two, it has 3, (0, 1), 20 and the change of 7.
pub record Touched : Type 0 where
  pub id : NodeId
  pub path : List (NodeId × ℕ)
  pub low : ℕ
  pub changes : List Change

-- The low of a node's child: 0 of the first, and of another the separator before it.
-- So in the node of a, b with the separator 20 the child 1 has the low 20.
abbrev pub low_in : Option InnerNode → ℕ → ℕ
low_in None i = 0
low_in (Some inner) i = slice_index_or (0 ∷ inner.separators) i 0

-- The low of the node that a path leads to, in a map. So it is 20 where the path ends at the child 1 of 0, which is an inner
-- node of 1 and 2 with the separator 20.
abbrev pub low_at : (NodeId → Option Node) → List (NodeId × ℕ) → ℕ
low_at nodes path = low_in (inner_in (nodes (last_step path).0)) (last_step path).1

-- The parent of changed children, as a map and the changes tell it. So of a change with the path (0, 1), (3, 4) it is 3 with
-- the path (0, 1), and with the low 20 where 20 is the first separator of 0.
abbrev pub touched_of : (NodeId → Option Node) → List Change → Touched
touched_of nodes [] = record { id = record { place = 0 }; path = []; low = 0; changes = [] }
touched_of nodes (change ∷ changes) =
    record { id = parent_of change; path = path_above change.path; low = low_at nodes (path_above change.path); changes = change ∷ changes }

-- One piece stands for the node: itself. So for the id 3 it is so of (20, 3), and not of (20, 4), nor of (20, 3), (30, 9).
abbrev pub is_alone : NodeId → List Piece → Bool
is_alone id [] = false
is_alone id (piece ∷ []) = same_place piece.id id
is_alone id (piece ∷ next ∷ more) = false

-- Each of the changed children stands for itself alone, so that their parent has the children that it had.
-- So it is so where (7, 6) stands for 6, and not where (7, 6), (9, 8) or nothing stands for it.
abbrev pub is_still : List Change → Bool
is_still [] = true
is_still (change ∷ changes) = is_alone change.node change.pieces && is_still changes

-- A touched node with what stood at its id, and the ids of its pieces.
-- So that of a touched node at 3 that becomes two has the node as it was at 3, and the ids 3 and 9.
pub record Group : Type 0 where
  pub touched : Touched
  pub node : InnerNode
  pub ids : List NodeId

-- The pieces that are left of a group's children.
-- So of the node of a, b with the separator 20, where (20, b), (30, c) stand for b, they are (0, a), (20, b), (30, c).
abbrev pub group_left : Group → List Piece
group_left group = children_left group.node group.touched.changes

-- The nodes that pieces are cut into, each with its low, and none where the pieces are few.
-- So 17 pieces at the low 20 make nodes of 9 and 8, the first with the low 20, and 7 pieces make none.
abbrev pub nodes_left : ℕ → List Piece → List (ℕ × InnerNode)
nodes_left low pieces =
    let nodes = with_lows (λ piece. piece.low) inner_over low (cut MOST_CHILDREN pieces) in
    if is_small LEAST_CHILDREN pieces then [] else nodes

-- The nodes that are left of a group, each with its low.
-- So of one with the low 20 and 17 children left they are two, of 9 and 8, the first at 20, and with 7 left there is none.
abbrev pub group_nodes : Group → List (ℕ × InnerNode)
group_nodes group = nodes_left group.touched.low (group_left group)

-- Nodes at ids, as cells, as many as there are of both.
-- So the ids 3, 9 and the nodes (0, a), (20, b) make the cells (3, a), (9, b).
abbrev pub cells_at : List NodeId → List (ℕ × InnerNode) → List Cell
cells_at [] nodes = []
cells_at (id ∷ ids) [] = []
cells_at (id ∷ ids) (node ∷ nodes) = (id, Inner node.1) ∷ cells_at ids nodes

-- The same nodes as pieces: the low of each, and its id.
-- So the ids 3, 9 and the nodes (0, a), (20, b) make the pieces (0, 3), (20, 9).
abbrev pub named_pieces : List NodeId → List (ℕ × InnerNode) → List Piece
named_pieces [] nodes = []
named_pieces (id ∷ ids) [] = []
named_pieces (id ∷ ids) (node ∷ nodes) = record { low = node.0; id = id } ∷ named_pieces ids nodes

-- What stands at a group's id before the work. So of a group with the node n at 3 it is (3, n).
abbrev pub cells_before : Group → List Cell
cells_before group = (group.touched.id, Inner group.node) ∷ []

-- A node that is left with few children stays, to be removed, with these children. So of one at 3 left with (0, 5), (7, 6) it
-- is at 3 the node over 5 and 6 with the separator 7, and of one left with 8 there is none.
abbrev pub removed_cell : Group → List Cell
removed_cell group =
    let own = (group.touched.id, Inner (inner_over (group_left group))) ∷ [] in
    if is_small LEAST_CHILDREN (group_left group) then own else []

-- What stands for a group after the work: its nodes at their ids, and its own where it is to be removed. So for one with the
-- ids 3 and 9, left with 17 children, they are nodes of 9 and 8 at 3 and 9, and for one at 3 left with 7 its own alone.
abbrev pub cells_after : Group → List Cell
cells_after group = cells_at group.ids (group_nodes group) ++ removed_cell group

-- What became of a group's node, as it is listed.
-- So of the node 3 with the path (0, 1) and the ids 3 and 9, left with 17 children, it has 3, (0, 1) and pieces at 3 and 9.
abbrev pub group_change : Group → Change
group_change group = record { node = group.touched.id; path = group.touched.path; pieces = named_pieces group.ids (group_nodes group) }

-- The group's node on this level where it is removed, and nothing where it isn't. So on the level 2 it is 3 at the level 2
-- where the node 3 is left with 7 children, and nothing where it is left with 8 or with none.
abbrev pub group_removed : ℕ → Group → List Removed
group_removed level group =
    let own = record { level = level; id = group.touched.id } ∷ [] in
    if is_small LEAST_CHILDREN (group_left group) then own else []
