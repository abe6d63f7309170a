use Rattle.std.proofs.Common.{◌≡◌, ◌≤◌, ◌+◌, drop, length, vec_len, vec_capacity}
use Rattle.palm_leaf.proofs.Lendings.{LendSoFar}
use Rattle.palm_leaf.proofs.lending.lend_leaves.Given as goal

abbrev pub invariant-loop-group : goal.invariant-loop-group
invariant-loop-group g l = record {
  far : LendSoFar l.fn.arena.places l.arena.places l.fn.least l.groups (drop l.group-index l.groups) l.works.items;
  begun : l.arena.begun ≡ l.fn.arena.begun;
  len : vec_len l.works ≡ l.group-index;
  capacity : vec_capacity l.works ≡ vec_capacity l.fn.works;
  ticks : l.steps ≤ l.fn.steps + l.group-index;
  moved : length l.arena.moved + l.fn.steps ≤ length l.fn.arena.moved + l.steps;
}
