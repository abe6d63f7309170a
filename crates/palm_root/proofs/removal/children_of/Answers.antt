use Rattle.std.proofs.Common.{◌++◌, ap, sym, ◌∙◌, [], ◌∷◌}
use Rattle.palm_arena.proofs.ListParts.{take_found}
use Rattle.palm_root.proofs.removal.children_of.Goals as goal

pub loop-i-preserved : goal.loop-i-preserved
loop-i-preserved c = c.push.ensures.items ∙ ap (λ ids. ids ++ c.child.result ∷ []) c.loop-i.invariant ∙ sym (take_found c.args.inner.now.children c.loop-i.i c.child.result c.child.ensures)
