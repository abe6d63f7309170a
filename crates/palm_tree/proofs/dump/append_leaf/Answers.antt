use Rattle.std.proofs.Common.{append_assoc, ◌∙◌}
use Rattle.palm_base.specs.Text.{listed_row_text}
use Rattle.palm_base.proofs.Appended.{extends_more, flat_map_next}
use Rattle.palm_tree.proofs.dump.append_leaf.Goals as goal

pub returns-in_err-append_listed_row-clause-kept : goal.returns-in_err-append_listed_row-clause-kept
returns-in_err-append_listed_row-clause-kept c =
    extends_more _ _ _ _ (c.loop-i.invariant ∙ append_assoc c.args.out.now.items _ _) c.in_err-append_listed_row.ensures.kept

pub loop-i-preserved : goal.loop-i-preserved
loop-i-preserved c =
    flat_map_next listed_row_text c.args.leaf.now c.loop-i.i c.row.result _ _ _ _ c.row.ensures c.loop-i.invariant c.in_ok-append_listed_row.ensures.ok

pub returns-clause-kept : goal.returns-clause-kept
returns-clause-kept c = extends_more _ _ _ _ (c.loop-i.invariant ∙ append_assoc c.args.out.now.items _ _) c.append-2.ensures.kept
