-- A pass over the tree of a batch, as the batch sees it.
use Rattle.std.specs.Prelude.{◌≡◌, List, filter, Option}
use Rattle.std.specs.List.{flat_map, Contains}
use Rattle.palm_base.specs.History.{calls_of}
use Rattle.palm_base.specs.Lawful.{IsLawful}
use Rattle.palm_base.specs.Lows.{LowsAreKeys}
use Rattle.palm_base.specs.Pass.{is_edit, set_of}
use Rattle.palm_base.specs.Tree.{Tree}
use Rattle.palm_base.specs.declared.call.Call.{Call}
use Rattle.palm_base.specs.declared.call.Entry.{Entry}
use Rattle.palm_base.specs.declared.row.Row.{Row}
use Rattle.palm_node.specs.declared.id.NodeId.{NodeId}
use Rattle.palm_node.specs.declared.node.Node.{Node}
use Rattle.palm_arena.specs.declared.shape.Shape.{Shape}
use Rattle.palm_arena.specs.ArenaState.{node_at, IsHeld}
use Rattle.palm_arena.specs.Leaves.{leaves_at}
use Rattle.palm_arena.specs.Reads.{ReadsAs, IsWhole}
use Rattle.palm_route.specs.Groups.{groups_of}
use Rattle.palm_route.specs.Parts.{parts_of}
use Rattle.palm_route.specs.declared.part.Group.{Group}
use Rattle.palm_route.specs.declared.part.Part.{Part}
use Rattle.palm_leaf.specs.Answers.{rows_at, answers_in}
use Rattle.palm_tree.specs.TreeValue.{TreeState}
use Rattle.palm_leaf.specs.declared.answer.PartAnswer.{PartAnswer}

-- A map is a lawful tree at a shape and nothing more, and its lows are keys of prefixes.
-- So the nodes of a root over two leaves of 8 rows are, where no other node is live.
pub record IsTree (tree : Tree) (nodes : NodeId → Option Node) (shape : Shape) : Type 0 where
  pub reads-as : ReadsAs nodes shape tree
  pub whole : IsWhole nodes shape
  pub lawful : IsLawful tree
  pub lows : LowsAreKeys tree

-- Each live node that a batch didn't move is the one that stood there before. So of a root over the leaves 1 and 2 a batch that
-- moved the root and 1 has left 2 as it was.
abbrev pub LeavesOthers : TreeState → TreeState → Type 0
LeavesOthers old new = (id : NodeId) → IsHeld new.places id → ¬ Contains new.moved id → node_at old.places id ≡ node_at new.places id

-- The Sets and Dels of a batch, in order. So those of Set 44 5, Get 44 and Del 4 are Set 44 5 and Del 4.
abbrev pub edits_in : List Entry → List Call
edits_in batch = filter is_edit (calls_of batch)

-- The Set that puts a row in, as an entry of a batch of the tree's own. So that of 44 at 5 is Set 44 5, by the caller 0 and at
-- the place 0.
abbrev pub set_entry : Row → Entry
set_entry row = record { caller = 0; place = 0; call = set_of row }

-- The parts of a batch on the leaves of a map. So on a leaf alone Get 44 has one, and Rate 442 has three.
abbrev pub parts_at : (NodeId → Option Node) → Shape → List Entry → List Part
parts_at nodes shape batch = parts_of (leaves_at nodes shape) 0 batch

-- The parts of a batch, put together by leaf. So those of Get 44, Get 4 on a leaf alone are one group of two parts.
abbrev pub groups_at : (NodeId → Option Node) → Shape → List Entry → List Group
groups_at nodes shape batch = groups_of (leaves_at nodes shape) (parts_at nodes shape batch)

-- What the leaves answer the parts of a batch, from left to right. So on a leaf alone of 44 at 5, Set 44 9, Get 44 are answered
-- 5 and 9.
abbrev pub answers_at : (NodeId → Option Node) → Shape → List Entry → List PartAnswer
answers_at nodes shape batch = flat_map (λ group. answers_in (rows_at nodes group.leaf) group.parts) (groups_at nodes shape batch)
