use Rattle.std.proofs.Common.{◌≡◌, ◌+◌, vec_len, vec_capacity}
use Rattle.palm_leaf.proofs.LaterLeaves.{LaterSoFar}
use Rattle.palm_leaf.proofs.leaf_work.cut_later.Given as goal

abbrev pub invariant-loop-i : goal.invariant-loop-i
invariant-loop-i l = record {
  far : LaterSoFar l.rows l.i l.rest l.later.items;
  len : vec_len l.later + 1 ≡ l.i;
  capacity : vec_capacity l.later ≡ vec_capacity l.fn.later;
}
