use Rattle.palm_batch.proofs.LevelsDone.{LevelsDone}
use Rattle.palm_batch.proofs.pass.change_levels.Given as goal

-- the levels below this one are done
abbrev pub invariant-loop-level : goal.invariant-loop-level
invariant-loop-level g l = LevelsDone l.fn.arena l.shape l.fn.leaves l.fn.steps l.level l.arena l.changes l.steps
