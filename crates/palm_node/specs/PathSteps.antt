-- How nodes and the places of children hold the steps of a path.
use Rattle.std.specs.Prelude.{◌≡◌, ℕ, ◌≤◌, List, length}
use Rattle.palm_node.specs.declared.id.NodeId.{NodeId}
use Rattle.palm_node.specs.declared.path.TheConstants.{MOST_PATH}

-- There is room for as many nodes and children as a path has steps, and no more steps count than that.
-- So with room for 16 of both, the first 2 of them hold a path, and so do the first 16, and no more.
pub record HoldsPath (nodes : List NodeId) (children : List ℕ) (steps : ℕ) : Type 0 where
  pub most : steps ≤ MOST_PATH
  pub nodes_room : length nodes ≡ MOST_PATH
  pub children_room : length children ≡ MOST_PATH
