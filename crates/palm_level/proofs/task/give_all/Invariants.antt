use Rattle.std.proofs.Common.{◌≡◌}
use Rattle.std.specs.Vec.{vec_len}
use Rattle.palm_level.specs.Tasks.{LentTo}
use Rattle.palm_level.proofs.task.give_all.Given as goal

-- the last leases are given back
abbrev pub invariant-loop-task : goal.invariant-loop-task
invariant-loop-task l = record {
  lent : LentTo l.arena.places l.tasks.items;
  begun : l.arena.begun ≡ l.fn.arena.begun;
  moved : l.arena.moved ≡ l.fn.arena.moved;
}

abbrev pub decreases-loop-task : goal.decreases-loop-task
decreases-loop-task l = vec_len l.tasks
