use Rattle.std.proofs.Common.{◌≡◌, ◌+◌, ◌≤◌, length}
use Rattle.palm_arena.specs.Reads.{map_of}
use Rattle.palm_arena.proofs.TakenLevels.{TakenSoFar}
use Rattle.palm_arena.specs.ArenaState.{NoneLent}
use Rattle.palm_arena.proofs.levels.take_level.Given as goal

-- the nodes over the pieces so far are put
abbrev pub invariant-loop-i : goal.invariant-loop-i
invariant-loop-i g l = record {
  far : TakenSoFar l.level (map_of l.fn.arena.places) l.i (map_of l.arena.places) l.rest l.made;
  begun : l.arena.begun ≡ l.fn.arena.begun;
  none_lent : NoneLent l.arena.places;
  ticks : l.steps ≤ l.fn.steps + l.i;
  moved : length l.arena.moved + l.fn.steps ≤ length l.fn.arena.moved + l.steps;
}
