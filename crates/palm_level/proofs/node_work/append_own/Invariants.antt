use Rattle.std.proofs.Common.{◌≡◌, ◌+◌, ◌-◌, ◌++◌, take, drop}
use Rattle.std.specs.Vec.{vec_len, vec_capacity}
use Rattle.palm_level.specs.Splices.{children_of}
use Rattle.palm_level.proofs.node_work.append_own.Given as goal

-- the children so far are appended
abbrev pub invariant-loop-i : goal.invariant-loop-i
invariant-loop-i l = record {
  items : l.children.items ≡ l.fn.children.items ++ take (l.i - l.from) (drop l.from (children_of l.inner));
  len : vec_len l.children ≡ vec_len l.fn.children + (l.i - l.from);
  capacity : vec_capacity l.children ≡ vec_capacity l.fn.children;
}
