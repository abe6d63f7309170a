use Rattle.std.proofs.Common.{◌≡◌, ◌++◌, take}
use Rattle.std.specs.Vec.{vec_capacity}
use Rattle.palm_node.proofs.leaf.Leaf.append_rows_reserved.Given as goal

-- the rows so far are appended
abbrev pub invariant-loop-i : goal.invariant-loop-i
invariant-loop-i l = record {
  rows : l.rows.items ≡ l.fn.rows.items ++ take l.i l.self;
  capacity : vec_capacity l.rows ≡ vec_capacity l.fn.rows;
}
