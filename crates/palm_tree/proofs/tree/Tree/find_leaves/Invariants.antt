use Rattle.std.proofs.Common.{◌≡◌, length}
use Rattle.palm_base.specs.Tree.{rows_of}
use Rattle.palm_arena.specs.Reads.{map_of}
use Rattle.palm_tree.specs.LookLanes.{EachSpot}
use Rattle.palm_tree.specs.TreeValue.{tree_of}
use Rattle.palm_tree.specs.declared.look_ups.TheConstants.{LANES}
use Rattle.palm_tree.proofs.LeafSpans.{Reaches}
use Rattle.palm_tree.proofs.tree.Tree.find_leaves.Given as goal

-- the nodes that are reached have the rows from their lows on to the keys
abbrev pub invariant-loop-level : goal.invariant-loop-level
invariant-loop-level l =
    let tree = l.self-inside in
    record {
      width : length l.spots ≡ LANES;
      reached : EachSpot (λ lane spot. Reaches (map_of tree.arena.places) (rows_of (tree_of tree.arena.places tree.shape)) lane.key tree.shape.levels l._level spot.id spot.low) l.lanes l.spots;
    }
