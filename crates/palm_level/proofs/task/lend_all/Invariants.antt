use Rattle.std.proofs.Common.{◌≡◌, ◌+◌, ◌≤◌, length}
use Rattle.std.specs.Vec.{vec_len, vec_capacity}
use Rattle.palm_level.proofs.Lending.{LentSoFar}
use Rattle.palm_level.proofs.task.lend_all.Given as goal

-- the last of what is planned is lent
abbrev pub invariant-loop-next : goal.invariant-loop-next
invariant-loop-next g l = record {
  far : LentSoFar l.fn.arena l.arena l.fn.planned.items l.planned.items l.tasks.items;
  room : vec_len l.tasks + vec_len l.planned ≤ vec_capacity l.tasks;
  begun : l.arena.begun ≡ l.fn.arena.begun;
  ticks : l.steps + vec_len l.planned ≤ l.fn.steps + vec_len l.fn.planned;
  moved : length l.arena.moved + l.fn.steps ≤ length l.fn.arena.moved + l.steps;
}

abbrev pub decreases-loop-next : goal.decreases-loop-next
decreases-loop-next g l = vec_len l.planned
