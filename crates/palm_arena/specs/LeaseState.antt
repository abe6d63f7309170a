-- What contracts see of a lease.
use Rattle.palm_node.specs.declared.id.NodeId.{NodeId}
use Rattle.palm_node.specs.declared.node.Node.{Node}

-- A node that is lent, and where it has to be given back.
-- So after the leaf a at the place 2 was lent, its lease is of the id 2 and the node a.
pub record LeaseState : Type 0 where
  pub id : NodeId
  pub node : Node
