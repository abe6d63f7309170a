use Rattle.palm_tree.proofs.LaneSteps.{SteppedTo, SameFrom}
use Rattle.palm_tree.proofs.look_ups.step_down.Given as goal

-- the spots before this lane's went down, and the others are as they were
abbrev pub invariant-loop-i : goal.invariant-loop-i
invariant-loop-i l = record {
  stepped : SteppedTo l.arena.places l.lanes l.initial.spots l.spots l.i;
  same : SameFrom l.initial.spots l.spots l.i;
}
