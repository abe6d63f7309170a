use Rattle.std.proofs.Common.{◌≡◌, ◌≤◌, ◌+◌, length, vec_len, vec_capacity}
use Rattle.std.specs.Vec.Iter.{into_iter_items, into_iter_len}
use Rattle.palm_leaf.proofs.Lendings.{GiveSoFar}
use Rattle.palm_leaf.proofs.lending.give_leaves_back.Given as goal

-- the items before those that are left are given back
abbrev pub invariant-loop-item : goal.invariant-loop-item
invariant-loop-item l = record {
  far : GiveSoFar l.fn.arena.places l.arena.places l.fn.works.items (into_iter_items l.left) l.done.items;
  len : into_iter_len l.left ≡ length (into_iter_items l.left);
  room : vec_len l.done + into_iter_len l.left ≤ vec_capacity l.done;
  begun : l.arena.begun ≡ l.fn.arena.begun;
  moved : l.arena.moved ≡ l.fn.arena.moved;
}

abbrev pub decreases-loop-item : goal.decreases-loop-item
decreases-loop-item l = into_iter_len l.left
