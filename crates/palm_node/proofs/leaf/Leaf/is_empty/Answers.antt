use Rattle.palm_node.proofs.HeldRows.{length_held}
use Rattle.palm_node.proofs.leaf.Leaf.is_empty.Goals as goal

pub returns : goal.returns
returns c = rw (length_held _ _ c.self.invariant c.self.view_is) c.is_empty.ensures
