use Rattle.palm_base.proofs.Appended.{extends_more}
use Rattle.palm_tree.proofs.dump.append_level.Goals as goal

pub returns-in_err-append_leaf-in-Leaf-clause-kept : goal.returns-in_err-append_leaf-in-Leaf-clause-kept
returns-in_err-append_leaf-in-Leaf-clause-kept c = extends_more _ _ _ _ c.loop-id.invariant.text c.in_err-append_leaf-in-Leaf.ensures.kept

pub returns-in_err-append_inner-in-Inner-clause-kept : goal.returns-in_err-append_inner-in-Inner-clause-kept
returns-in_err-append_inner-in-Inner-clause-kept c = extends_more _ _ _ _ c.loop-id.invariant.text c.in_err-append_inner-in-Inner.ensures.kept
