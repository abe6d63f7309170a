use Rattle.palm_base.specs.Text.{listed_row_text}
use Rattle.palm_base.proofs.Appended.{extends_more, flat_map_next}
use Rattle.palm_base.proofs.text.append_rows.Goals as goal

pub returns-in_err-append_listed_row-clause-kept : goal.returns-in_err-append_listed_row-clause-kept
returns-in_err-append_listed_row-clause-kept c = extends_more _ _ _ _ c.loop-i.invariant c.in_err-append_listed_row.ensures.kept

pub loop-i-preserved : goal.loop-i-preserved
loop-i-preserved c =
    flat_map_next listed_row_text c.args.rows.now c.loop-i.i c.get.result c.args.out.now.items _ _ _ c.get.ensures c.loop-i.invariant c.in_ok-append_listed_row.ensures.ok
