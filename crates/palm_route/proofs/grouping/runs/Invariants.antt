use Rattle.std.proofs.Common.{◌≡◌, map, take}
use Rattle.palm_route.specs.Marks.{marked}
use Rattle.palm_route.specs.Runs.{runs_of}
use Rattle.palm_route.proofs.grouping.runs.Given as goal

-- the parts of the marks so far are put together
abbrev pub invariant-loop-i : goal.invariant-loop-i
invariant-loop-i l = l.groups.items ≡ runs_of (map (marked l.routed) (take l.i l.marks))
