use Rattle.std.proofs.Common.{◌≡◌, ◌+◌, ◌≤◌, length}
use Rattle.palm_level.specs.Tasks.{Took, SameLent}
use Rattle.palm_level.proofs.task.take_later.Given as goal

-- the later nodes so far took ids
abbrev pub invariant-loop-one : goal.invariant-loop-one
invariant-loop-one g l = record {
  took : Took l.fn.arena l.arena l.fn.pieces l.pieces l.yielded;
  same_lent : SameLent l.fn.arena.places l.arena.places;
  begun : l.arena.begun ≡ l.fn.arena.begun;
  ticks : l.steps ≤ l.fn.steps + length l.yielded;
  moved : length l.arena.moved + l.fn.steps ≤ length l.fn.arena.moved + l.steps;
}
