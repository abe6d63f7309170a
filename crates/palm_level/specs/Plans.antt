-- What is planned of a node whose children changed, before it is lent.
use Rattle.std.specs.Prelude.{◌≡◌, ◌+◌, ◌<◌, ◌≤◌, ℕ, true, false, List, [], length, sum_by, Option, None, Some}
use Rattle.std.specs.Vec.{vec_capacity}
use Rattle.palm_base.specs.Cut.{piece_count}
use Rattle.palm_base.specs.declared.bounds.TheConstants.{MOST_CHILDREN}
use Rattle.palm_node.specs.InnerNode.{InnerNode}
use Rattle.palm_node.specs.declared.id.NodeId.{NodeId}
use Rattle.palm_node.specs.declared.node.Node.{Node}
use Rattle.palm_node.specs.declared.node.Node.TheVariants.{Inner}
use Rattle.palm_node.specs.declared.change.Change.{Change}
use Rattle.palm_level.specs.Splices.{last_step, children_left}
use Rattle.palm_level.specs.Works.{CanSplice}
use Rattle.palm_level.specs.Groups.{Touched, touched_of, is_still}
use Rattle.palm_level.specs.declared.plan.Parent.{Parent}
use Rattle.palm_level.specs.declared.plan.Room.{Room}
use Rattle.palm_level.specs.declared.plan.Planned.{Planned}

-- A parent, without where its changes stand in memory.
-- So that of the node 3 with the path (0, 1), the low 20 and the change of 7 has just these.
abbrev pub touched_by : Parent → Touched
touched_by parent = record { id = parent.node; path = parent.path; low = parent.low; changes = parent.changes.now }

-- How many pieces stand for changed children. So for two children of which one became two pieces they are 3.
abbrev pub piece_total : List Change → ℕ
piece_total changes = sum_by (λ change. length change.pieces) changes

-- There is room for the work on a node. So for one that is left with 17 children there is room for 17 of them and for one
-- later node, and nothing is listed there yet.
pub record HasRoom (node : InnerNode) (changes : List Change) (room : Room) : Type 0 where
  pub no-children : room.children.items ≡ []
  pub no-later : room.later.items ≡ []
  pub children-room : length (children_left node changes) ≤ vec_capacity room.children
  pub later-room : piece_count MOST_CHILDREN (length (children_left node changes)) ≤ vec_capacity room.later + 1

-- The step leads from an inner node of the map to one of its children.
-- So (0, 1) does where 0 is an inner node of two children, and (0, 2) doesn't.
pub record IsInnerAt (nodes : NodeId → Option Node) (step : NodeId × ℕ) : Type 0 where
  pub node : InnerNode
  pub held : nodes step.0 ≡ Some (Inner node)
  pub inside : step.1 < length node.children

-- The map has an inner node there, which can be made anew over what stands for its changed children. So it can at 3 where the
-- node of a, b with the separator 20 stands and (20, b), (30, c) are for b, and it can't where a leaf stands.
pub record CanWork (nodes : NodeId → Option Node) (id : NodeId) (changes : List Change) : Type 0 where
  pub node : InnerNode
  pub held : nodes id ≡ Some (Inner node)
  pub can-splice : CanSplice node changes

-- There is room for the node at an id where its children changed in number or place, and none else. So there is none where
-- (20, 7) alone stands for the child 7, and where (20, 7), (30, 9) do there is room for the children left.
abbrev pub IsRoomAt : (NodeId → Option Node) → NodeId → List Change → Option Room → Type 0
IsRoomAt nodes id changes None = is_still changes ≡ true
IsRoomAt nodes id changes (Some room) = (is_still changes ≡ false) × ((node : InnerNode) → nodes id ≡ Some (Inner node) → HasRoom node changes room)

-- A map has what the changes of one parent tell of: an inner node that can be made anew, and the inner node over it.
-- So for one change with the path (0, 1), (3, 2) it has an inner node at 0 with a child 1, and one at 3 with a child 2.
pub record Fits (nodes : NodeId → Option Node) (run : List Change) : Type 0 where
  pub some : 1 ≤ length run
  pub path : 1 ≤ length (touched_of nodes run).path
  pub over : IsInnerAt nodes (last_step (touched_of nodes run).path)
  pub own : CanWork nodes (touched_of nodes run).id run

-- What is planned of a node: it can be made anew, and there is room for it.
-- So where a leaf of the node at 3 was cut in two there is room for 3, and where each stands for itself there is none.
pub record IsPlanned (nodes : NodeId → Option Node) (planned : Planned) : Type 0 where
  pub can : CanWork nodes planned.parent.node planned.parent.changes.now
  pub room : IsRoomAt nodes planned.parent.node planned.parent.changes.now planned.room

-- The touched node of what is planned.
-- So for the node 3 with the path (0, 1) and the low 20, with room or without, it has these three and the changes.
abbrev pub planned_key : Planned → Touched
planned_key planned = touched_by planned.parent
