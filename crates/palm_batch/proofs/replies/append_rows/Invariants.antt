use Rattle.std.proofs.Common.{◌≡◌, ◌++◌, take}
use Rattle.palm_batch.proofs.replies.append_rows.Given as goal

-- the rows so far of those that fit stand behind the others
abbrev pub invariant-loop-row : goal.invariant-loop-row
invariant-loop-row l = l.rows ≡ l.fn.rows ++ take l.row-index l.row-items
