use Rattle.std.proofs.Common.{◌≡◌, List}
use Rattle.palm_arena.specs.ArenaState.{NoneLent}
use Rattle.palm_arena.specs.Cells.{Cell}
use Rattle.palm_arena.specs.Reads.{map_of}
use Rattle.palm_arena.specs.Standing.{Kept}
use Rattle.palm_root.specs.Sweeps.{StandsIn, IsHalfSwept}
use Rattle.palm_root.proofs.removal.+sweep.Given as goal

abbrev pub decreases-sweep : goal.decreases-sweep
decreases-sweep l = l.below

-- the children before this one are gone, and their rows are appended
abbrev pub invariant-loop-child : goal.invariant-loop-child
invariant-loop-child l = record {
  half :
      (kept : Kept) (others : List Cell) → StandsIn (map_of l.fn.arena.places) l.fn.below l.fn.id kept others
      → IsHalfSwept (map_of l.arena.places) l.fn.rows.items l.rows.items kept others l.child-index;
  begun : l.arena.begun ≡ l.fn.arena.begun;
  moved : l.arena.moved ≡ l.fn.arena.moved;
  none_lent : NoneLent l.arena.places;
}
