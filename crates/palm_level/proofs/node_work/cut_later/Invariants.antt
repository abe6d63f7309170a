use Rattle.std.proofs.Common.{◌≡◌, ◌+◌}
use Rattle.std.specs.Vec.{vec_len, vec_capacity}
use Rattle.palm_level.proofs.LaterParts.{PartsSoFar}
use Rattle.palm_level.proofs.node_work.cut_later.Given as goal

-- the parts before the i-th are made
abbrev pub invariant-loop-i : goal.invariant-loop-i
invariant-loop-i l = record {
  far : PartsSoFar l.fn.children l.i l.rest l.later.items;
  len : vec_len l.later + 1 ≡ l.i;
  capacity : vec_capacity l.later ≡ vec_capacity l.fn.later;
}
