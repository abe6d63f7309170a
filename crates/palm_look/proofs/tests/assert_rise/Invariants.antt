use Rattle.std.proofs.Common.{ℕ, ◌+◌, ◌<◌, get_or}
use Rattle.palm_base.specs.Table.{row_key}
use Rattle.palm_base.specs.declared.row.Row.{Row}
use Rattle.palm_look.proofs.tests.assert_rise.Given as goal

-- the rows so far rise
abbrev pub invariant-loop-i : goal.invariant-loop-i
invariant-loop-i g l = (k : ℕ) (d : Row) → k + 1 < l.i → row_key (get_or l.rows k d) < row_key (get_or l.rows (k + 1) d)
