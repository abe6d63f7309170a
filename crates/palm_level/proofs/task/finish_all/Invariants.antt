use Rattle.std.proofs.Common.{◌≡◌, ◌+◌, ◌≤◌, length}
use Rattle.std.specs.Prelude.{sum_by}
use Rattle.std.specs.Vec.{vec_len}
use Rattle.std.specs.List.{AllByRecursion}
use Rattle.palm_level.specs.Tasks.{LentTo, IsTask, later_of}
use Rattle.palm_level.proofs.Finishing.{FinishedSoFar}
use Rattle.palm_level.proofs.task.finish_all.Given as goal

-- the last tasks are finished
abbrev pub invariant-loop-item : goal.invariant-loop-item
invariant-loop-item g l = record {
  far : FinishedSoFar l.level l.fn.arena l.arena l.fn.tasks.items l.tasks.items l.fn.changes l.changes;
  lent : LentTo l.arena.places l.tasks.items;
  there : AllByRecursion IsTask l.tasks.items;
  begun : l.arena.begun ≡ l.fn.arena.begun;
  ticks : l.steps + sum_by later_of l.tasks.items ≤ l.fn.steps + sum_by later_of l.fn.tasks.items;
  moved : length l.arena.moved + l.fn.steps ≤ length l.fn.arena.moved + l.steps;
}

abbrev pub decreases-loop-item : goal.decreases-loop-item
decreases-loop-item g l = vec_len l.tasks
