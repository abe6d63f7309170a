-- The leaf stage: the groups that it takes, and what it makes of them.
use Rattle.std.specs.Prelude.{◌≡◌, ◌≤◌, ℕ, ◌-◌, ◌==◌, if◌then◌else◌, List, ◌++◌, length, map, sum_by, Option}
use Rattle.std.specs.List.{flat_map, AllByRecursion}
use Rattle.palm_base.specs.declared.bounds.TheConstants.{LEAST_LEAF_ROWS}
use Rattle.palm_node.specs.declared.id.NodeId.{NodeId}
use Rattle.palm_node.specs.declared.node.Node.{Node}
use Rattle.palm_arena.specs.declared.shape.Shape.{Shape}
use Rattle.palm_arena.specs.Cells.{Cell, Owns}
use Rattle.palm_route.specs.declared.part.Group.{Group}
use Rattle.palm_leaf.specs.Answers.{answers_in, rows_at}
use Rattle.palm_leaf.specs.Ends.{LeavesEnd, end_of, group_cells}
use Rattle.palm_leaf.specs.Routed.{HasKey, parts_in}
use Rattle.palm_leaf.specs.declared.settling.Gathered.{Gathered}

-- With how many rows a leaf of a tree stands on: a root with any, and every other with the least of a leaf.
-- So it is 0 for a tree of 1 level, and 8 for one of 2.
abbrev pub least_of : Shape → ℕ
least_of shape = if shape.levels == 1 then 0 else LEAST_LEAF_ROWS

-- The groups are of leaves that stand beside each other in a map. Each has a part, and its edits go by keys.
-- So with leaves at 1 and 2, a group of 1 with Set 44 90 and one of 2 with a look-up are such, and two groups of 1 aren't.
pub record HasGroups (nodes : NodeId → Option Node) (groups : List Group) : Type 0 where
  pub leaves : (others : List Cell) × Owns nodes (group_cells nodes groups ++ others)
  pub keys : AllByRecursion (λ group. AllByRecursion HasKey group.parts) groups
  pub some : AllByRecursion (λ group. 1 ≤ length group.parts) groups

-- The leaves of groups have become their ends, with the answers to their parts, and no more new leaves than parts.
-- So with the least 0, for one group of Set 44 90 on the leaf of 44 120, there are one change with one piece and the answer 120.
pub record LeavesDone (old new : NodeId → Option Node) (least : ℕ) (groups : List Group) (gathered : Gathered) : Type 0 where
  pub ends : LeavesEnd old new (group_cells old groups) (map (end_of old least) groups) gathered.nodes gathered.loose.items
  pub answers : gathered.answers ≡ flat_map (λ group. answers_in (rows_at old group.leaf) group.parts) groups
  pub nodes : length gathered.nodes ≤ parts_in groups
  pub pieces : sum_by (λ change. length change.pieces - 1) gathered.nodes ≤ parts_in groups
