use Rattle.std.proofs.Common.{◌≡◌, ◌+◌, ◌-◌, ◌*◌, ◌^◌, ◌<◌, ◌≤◌, List, length}
use Rattle.palm_base.specs.Tree.{Tree}
use Rattle.palm_arena.specs.ArenaState.{NoneLent}
use Rattle.palm_arena.specs.Cells.{Cell, HasCells}
use Rattle.palm_arena.specs.Reads.{map_of}
use Rattle.palm_arena.specs.Levels.{IsLevel}
use Rattle.palm_arena.proofs.Raised.{TicksSoFar}
use Rattle.palm_arena.proofs.levels.raise.Given as goal

-- the level is one over the lowest, and there are few of them
abbrev pub invariant-loop-alloc : goal.invariant-loop-alloc
invariant-loop-alloc g l = record {
  level : (tree : Tree) (others : List Cell) → IsLevel tree others (map_of l.fn.arena.places) l.below l.fn.lowest → IsLevel tree others (map_of l.arena.places) (l.levels - 1) l.level;
  others : (cells : List Cell) → HasCells (map_of l.fn.arena.places) cells → HasCells (map_of l.arena.places) cells;
  some : 1 ≤ length l.level;
  counted : 1 ≤ l.levels;
  few : length l.level < 2 ^ 64 → length l.level * 2 ^ l.levels ≤ 2 ^ 82;
  begun : l.arena.begun ≡ l.fn.arena.begun;
  none_lent : NoneLent l.arena.places;
  ticks : TicksSoFar (length l.fn.lowest) (length l.level) l.fn.steps l.steps;
  moved : length l.arena.moved + l.fn.steps ≤ length l.fn.arena.moved + l.steps;
}

abbrev pub decreases-loop-alloc : goal.decreases-loop-alloc
decreases-loop-alloc g l = length l.level
