use Rattle.std.proofs.Common.{◌≤◌, inl, inr, length, arith, ◌∙◌}
use Rattle.palm_tree.proofs.Limits.{take_short}
use Rattle.palm_tree.proofs.LeafParts.{row_appended, row_passed, rows_end}
use Rattle.palm_tree.proofs.list.append_from_leaf.Goals as goal
use Rattle.palm_tree.proofs.list.append_from_leaf.Goals.{then-key-range-2+in_ok-push, else-key-range-2, then-key-range-via-then-key-range, then-key-range-via-else-key-range+then-len-range}

pub loop-i-preserved : goal.loop-i-preserved
loop-i-preserved c =
    let from = c.args.range.now.from in
    let to = c.args.range.now.to in
    let limit = c.args.range.now.limit in
    let own = c.key-key.ensures.key in
    let fits : length c.loop-i.rows ≤ limit = rw c.loop-i.invariant (take_short limit _) in
    elim c.if-key-range-2.branch [
      | then-key-range-2+in_ok-push w ↦
          row_appended from to limit c.loop-i.i c.args.rows.now c.args.leaf.now c.loop-i.rows c.if-key-range-2.rows c.row-row.result
          c.loop-i.invariant c.row-row.ensures (omega (arith, own, w.if-key-range-2.true)) (omega (arith, own, c.if-key-range.false))
          (omega (arith, fits, c.len.ensures, c.if-len-range.false)) (w.rows-is ∙ w.in_ok-push.ensures.ok)
      | else-key-range-2 w ↦
          rw w.rows-is (row_passed from to limit c.loop-i.i c.args.rows.now c.args.leaf.now c.loop-i.rows c.row-row.result
          c.loop-i.invariant c.row-row.ensures (omega (arith, own, w.if-key-range-2.false)))
    ]

pub returns-then-key-range : goal.returns-then-key-range
returns-then-key-range c =
    let from = c.args.range.now.from in
    let to = c.args.range.now.to in
    let limit = c.args.range.now.limit in
    let end = rows_end from to limit c.loop-i.i c.args.rows.now c.args.leaf.now c.loop-i.rows c.row-row.result c.loop-i.invariant c.len-i-end.ensures.leaf.table c.row-row.ensures in
    elim c.then-key-range.branch [
      | then-key-range-via-then-key-range w ↦ record { ok = end (inl (omega (arith, c.key-key.ensures.key, w.if-key-range.true))) }
      | then-key-range-via-else-key-range+then-len-range w ↦ record { ok = end (inr (omega (arith, w.len.ensures, w.if-len-range.true))) }
    ]
