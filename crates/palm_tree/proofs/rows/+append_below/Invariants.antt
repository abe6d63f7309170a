use Rattle.std.proofs.Common.{◌≡◌, ◌++◌, ◌-◌, take}
use Rattle.std.specs.List.{flat_map}
use Rattle.palm_tree.specs.Below.{rows_below}
use Rattle.palm_tree.proofs.rows.+append_below.Given as goal

abbrev pub decreases-append_below : goal.decreases-append_below
decreases-append_below l = l.below

-- the rows below the children so far are appended
abbrev pub invariant-loop-i : goal.invariant-loop-i
invariant-loop-i l = l.rows.items ≡ l.fn.rows.items ++ flat_map (rows_below l.arena.places (l.below - 1)) (take l.i l.inner.children)
