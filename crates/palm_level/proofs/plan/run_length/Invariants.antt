use Rattle.std.proofs.Common.{◌≡◌, take}
use Rattle.std.specs.List.{AllByRecursion}
use Rattle.palm_level.specs.Runs.{parent_of}
use Rattle.palm_level.proofs.plan.run_length.Given as goal

-- the changes so far have one parent
abbrev pub invariant-loop-i : goal.invariant-loop-i
invariant-loop-i l = AllByRecursion (λ change. parent_of change ≡ l.parent) (take l.i l.changes)
