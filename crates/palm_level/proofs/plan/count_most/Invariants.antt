use Rattle.std.proofs.Common.{◌≡◌, ◌+◌, take, length}
use Rattle.palm_level.specs.Plans.{piece_total}
use Rattle.palm_level.proofs.plan.count_most.Given as goal

-- the children and the pieces so far are counted
abbrev pub invariant-loop-change : goal.invariant-loop-change
invariant-loop-change l = l.count ≡ length l.inner.children + piece_total (take l.change-index l.changes)
