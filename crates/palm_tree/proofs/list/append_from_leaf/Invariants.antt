use Rattle.std.proofs.Common.{◌≡◌, ◌++◌, take, filter}
use Rattle.palm_base.specs.Table.{lies_within}
use Rattle.palm_tree.proofs.list.append_from_leaf.Given as goal

-- the rows before this one are done
abbrev pub invariant-loop-i : goal.invariant-loop-i
invariant-loop-i l = l.rows ≡ take l.range.limit (l.fn.rows ++ filter (lies_within l.range.from l.range.to) (take l.i l.leaf))
