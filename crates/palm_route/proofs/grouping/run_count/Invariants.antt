use Rattle.std.proofs.Common.{◌≤◌}
use Rattle.palm_route.proofs.grouping.run_count.Given as goal

-- no more runs than marks so far
abbrev pub invariant-loop-i : goal.invariant-loop-i
invariant-loop-i l = l.count ≤ l.i
