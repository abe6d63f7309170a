use Rattle.std.proofs.Common.{append_assoc, ◌∙◌}
use Rattle.palm_base.specs.Shape.{separator_text}
use Rattle.palm_base.proofs.Appended.{extends_more, flat_map_next}
use Rattle.palm_tree.proofs.dump.append_inner.Goals as goal

pub returns-in_err-append_separator-clause-kept : goal.returns-in_err-append_separator-clause-kept
returns-in_err-append_separator-clause-kept c =
    extends_more _ _ _ _ (c.loop-i.invariant ∙ append_assoc c.args.out.now.items _ _) c.in_err-append_separator.ensures.kept

pub loop-i-preserved : goal.loop-i-preserved
loop-i-preserved c =
    flat_map_next separator_text c.args.inner.now.separators c.loop-i.i c.separator.result _ _ _ _ c.separator.ensures c.loop-i.invariant c.in_ok-append_separator.ensures.ok

pub returns-clause-kept : goal.returns-clause-kept
returns-clause-kept c = extends_more _ _ _ _ (c.loop-i.invariant ∙ append_assoc c.args.out.now.items _ _) c.append-2.ensures.kept
