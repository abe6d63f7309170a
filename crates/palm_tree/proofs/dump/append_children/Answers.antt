use Rattle.palm_tree.proofs.Lists.{take_next}
use Rattle.palm_tree.proofs.dump.append_children.Goals as goal

pub loop-i-preserved : goal.loop-i-preserved
loop-i-preserved c = take_next c.args.inner.now.children c.loop-i.i c.child.result _ _ _ c.child.ensures c.loop-i.invariant c.in_ok-push.ensures.items
