use Rattle.std.proofs.Common.{◌≡◌, List, map}
use Rattle.palm_arena.specs.ArenaState.{NoneLent}
use Rattle.palm_arena.specs.Cells.{Cell}
use Rattle.palm_arena.specs.Reads.{map_of}
use Rattle.palm_arena.specs.Standing.{Kept, removed_of}
use Rattle.palm_root.specs.Sweeps.{AreSwept}
use Rattle.palm_root.proofs.removal.sweep_all.Given as goal

-- the nodes before this one are gone, and their rows are appended
abbrev pub invariant-loop-node : goal.invariant-loop-node
invariant-loop-node l = record {
  swept :
      (kept : List Kept) (others : List Cell) → l.removed ≡ map removed_of kept → AreSwept (map_of l.fn.arena.places) l.fn.rows.items l.fn.rows.items kept others 0
      → AreSwept (map_of l.arena.places) l.fn.rows.items l.rows.items kept others l.node-index;
  begun : l.arena.begun ≡ l.fn.arena.begun;
  moved : l.arena.moved ≡ l.fn.arena.moved;
  none_lent : NoneLent l.arena.places;
}
