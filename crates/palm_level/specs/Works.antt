-- When a node's work may run, and what it leaves.
use Rattle.std.specs.Prelude.{◌≡◌, ◌+◌, ◌≤◌, ◌<◌, List, [], ◌∷◌, length, map, drop}
use Rattle.std.specs.Vec.{vec_capacity}
use Rattle.std.specs.List.{AllByRecursion}
use Rattle.palm_base.specs.Cut.{piece_count, cut}
use Rattle.palm_base.specs.Pass.{first_low}
use Rattle.palm_base.specs.declared.bounds.TheConstants.{MOST_CHILDREN}
use Rattle.palm_node.specs.InnerNode.{InnerNode, inner_over, later_lows, Rise}
use Rattle.palm_node.specs.declared.id.Piece.{Piece}
use Rattle.palm_node.specs.declared.node.Node.TheVariants.{Inner}
use Rattle.palm_level.specs.Splices.{children_left, PlacesRise}
use Rattle.palm_node.specs.declared.change.Change.{Change}
use Rattle.palm_level.specs.declared.node_work.LaterNode.{LaterNode}
use Rattle.palm_level.specs.declared.node_work.LevelWork.{LevelWork}

-- The later node over pieces. So over (3, a), (20, b) it begins at 3, and its children are a and b with the separator 20.
abbrev pub later_over : List Piece → LaterNode
later_over pieces = record { low = first_low (λ piece. piece.low) pieces; node = inner_over pieces }

-- The node that keeps its id: the one over the first part, and where there is no part the node as it was.
-- So with parts of 9 and 8 pieces it is the one over the 9.
abbrev pub first_node : InnerNode → List (List Piece) → InnerNode
first_node node [] = node
first_node node (part ∷ parts) = inner_over part

-- The parts that are left of a node's children.
-- So of 17 children left they are one of 9 and one of 8, of 7 one of 7, and of none there is no part.
abbrev pub parts_left : InnerNode → List Change → List (List Piece)
parts_left node changes = cut MOST_CHILDREN (children_left node changes)

-- A node can be made anew over what stands for its children: each changed child has a place in it, in order, and the lows
-- of the children that are left strictly rise.
-- So the one of a, b with the separator 20 can where (20, b), (30, c) stand for b, and it can't where (20, b), (15, c) do.
pub record CanSplice (node : InnerNode) (changes : List Change) : Type 0 where
  pub paths : AllByRecursion (λ change. 0 < length change.path) changes
  pub places : PlacesRise 0 (length node.children) changes
  pub rising : Rise (later_lows (children_left node changes))

-- A work may run: there is an inner node in its lease, which can be made anew, and there is room for all of it.
-- So where 17 children will be left, there is room for 17 of them and for one later node.
pub record IsReady (work : LevelWork) : Type 0 where
  pub node : InnerNode
  pub is-inner : work.lease.node ≡ Inner node
  pub can-splice : CanSplice node work.changes.now
  pub no-children : work.children.items ≡ []
  pub no-later : work.later.items ≡ []
  pub children-room : length (children_left node work.changes.now) ≤ vec_capacity work.children
  pub later-room : piece_count MOST_CHILDREN (length (children_left node work.changes.now)) ≤ vec_capacity work.later + 1

-- What a work that has run leaves: the node over the first part in its lease, and the later parts.
-- So where 17 children are left, the lease has the node over the first 9, and the one later node is over the other 8.
pub record HasRun (before after : LevelWork) : Type 0 where
  pub id : after.lease.id ≡ before.lease.id
  pub made : (node : InnerNode) → before.lease.node ≡ Inner node
      → (after.lease.node ≡ Inner (first_node node (parts_left node before.changes.now)))
      × (after.children.items ≡ children_left node before.changes.now)
      × (after.later.items ≡ map later_over (drop 1 (parts_left node before.changes.now)))
