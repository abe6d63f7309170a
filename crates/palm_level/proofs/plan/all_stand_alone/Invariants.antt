use Rattle.std.proofs.Common.{◌≡◌, drop}
use Rattle.palm_level.specs.Groups.{is_still}
use Rattle.palm_level.proofs.plan.all_stand_alone.Given as goal

-- the changes so far stand for themselves
abbrev pub invariant-loop-change : goal.invariant-loop-change
invariant-loop-change l = is_still l.changes ≡ is_still (drop l.change-index l.changes)
