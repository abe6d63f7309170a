use Rattle.std.proofs.Common.{sym}
use Rattle.palm_node.proofs.HeldSteps.{length_held}
use Rattle.palm_node.proofs.path.Path.len.Goals as goal

pub returns-clause-len : goal.returns-clause-len
returns-clause-len c = sym (length_held _ _ _ c.self.invariant c.self.view_is)
