use Rattle.std.proofs.Common.{◌≡◌, ◌++◌, ◌+◌, ◌-◌, take, filter}
use Rattle.std.specs.List.{flat_map}
use Rattle.palm_base.specs.Table.{lies_within}
use Rattle.palm_tree.specs.Below.{rows_below}
use Rattle.palm_tree.proofs.list.+append_below.Given as goal

abbrev pub decreases-append_below : goal.decreases-append_below
decreases-append_below l = l.below

-- the children before this one are done
abbrev pub invariant-loop-i : goal.invariant-loop-i
invariant-loop-i l =
    l.rows ≡ take l.range.limit (l.fn.rows ++ filter (lies_within l.range.from l.range.to)
    (flat_map (rows_below l.arena.places (l.below - 1)) (take l.i l.inner.children)))

abbrev pub decreases-loop-i : goal.decreases-loop-i
decreases-loop-i l = l.last + 1 - l.i
