use Rattle.std.proofs.Common.{IsSome}
use Rattle.palm_tree.proofs.AddedLeaves.{LeavesSoFar}
use Rattle.palm_tree.proofs.build.add_leaves.Given as goal

-- the leaves of the pieces so far are put
abbrev pub invariant-loop-i : goal.invariant-loop-i
invariant-loop-i g l = record {
  far : LeavesSoFar l.rows l.i l.arena.places l.rest l.leaves;
  under_way : IsSome l.arena.begun;
}
