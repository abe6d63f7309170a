use Rattle.std.proofs.Common.{◌≡◌, ◌≤◌, ◌+◌, length}
use Rattle.std.specs.Vec.Iter.{into_iter_items}
use Rattle.palm_arena.specs.ArenaState.{NoneLent}
use Rattle.palm_arena.specs.Reads.{map_of}
use Rattle.palm_leaf.specs.Settling.{AreTaken}
use Rattle.palm_leaf.proofs.settling.take_later.Given as goal

abbrev pub invariant-loop-leaf : goal.invariant-loop-leaf
invariant-loop-leaf g l = record {
  able : (goal.iterator-loop-leaf g).can_next l.leaf-iterator;
  finite : (goal.iterator-loop-leaf g).is_finite l.leaf-iterator;
  taken : AreTaken (map_of l.fn.arena.places) (map_of l.arena.places) l.fn.pieces l.pieces l.yielded;
  begun : l.arena.begun ≡ l.fn.arena.begun;
  none_lent : NoneLent l.arena.places;
  ticks : l.steps + length (into_iter_items l.leaf-iterator) ≤ l.fn.steps + length l.fn.later.items;
  moved : length l.arena.moved + l.fn.steps ≤ length l.fn.arena.moved + l.steps;
}
