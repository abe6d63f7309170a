-- One node stands in one place.
use Rattle.std.proofs.Common.{◌≡◌, Option, Some}
use Rattle.palm_node.specs.InnerNode.{InnerNode}
use Rattle.palm_node.specs.declared.node.Node.{Node}
use Rattle.palm_node.specs.declared.node.Node.TheVariants.{Inner}

-- So inner nodes that stand in the same place are the same.
pub inner_same : (a b : InnerNode) (at : Option Node) → at ≡ Some (Inner a) → at ≡ Some (Inner b) → a ≡ b
inner_same a b at e f = cc
