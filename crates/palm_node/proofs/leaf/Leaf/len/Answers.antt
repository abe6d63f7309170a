use Rattle.std.proofs.Common.{sym, ◌∙◌}
use Rattle.palm_node.proofs.HeldRows.{length_held, leaf_held}
use Rattle.palm_node.proofs.leaf.Leaf.len.Goals as goal

pub returns-clause-len : goal.returns-clause-len
returns-clause-len c = c.len.ensures.value ∙ sym (length_held _ _ c.self.invariant c.self.view_is)

pub returns-clause-leaf : goal.returns-clause-leaf
returns-clause-leaf c = leaf_held _ _ c.self.invariant c.self.view_is
