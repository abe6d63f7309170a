-- What stands below an id, so many levels down: its rows, and that they can be found by their keys.
use Rattle.std.specs.Prelude.{◌≡◌, ℕ, List, [], Option, None, Some}
use Rattle.std.proofs.Common.{zero, suc}
use Rattle.palm_base.specs.Tree.{Subtree, rows_in}
use Rattle.palm_base.specs.Lawful.{HasFromTo, InOrder}
use Rattle.palm_node.specs.declared.id.NodeId.{NodeId}
use Rattle.palm_arena.specs.Reads.{map_of, reads}
use Rattle.palm_arena.specs.declared.place.Place.{Place}
use Rattle.palm_base.specs.declared.bounds.TheConstants.{MOST_CHILDREN}
use Rattle.palm_base.specs.declared.row.Row.{Row}

-- An inner node has a child at least and no more than fit, and they are in order. Of a leaf nothing is asked, since its
-- rows always are. So a root over two leaves of 8 rows is ordered where the keys of the first lie below the low of the
-- second, and those of the second don't.
abbrev pub IsOrdered : (n : ℕ) → Subtree n → Type 0
IsOrdered zero rows = Unit {0}
IsOrdered (suc n) children = HasFromTo 1 MOST_CHILDREN children × ((low : ℕ) × (high : ℕ) × InOrder n low high children)

-- At an id places read as a node in order, so many levels below it. So they do with none at the id of a leaf.
pub record HasNodeBelow (places : List Place) (below : ℕ) (id : NodeId) : Type 0 where
  pub node : Subtree below
  pub reads-as : reads (map_of places) below id ≡ Some node
  pub ordered : IsOrdered below node

-- The rows of a node that was read, and none where nothing was. So of a node over the leaves of 1 and of 2 they are the
-- rows of 1 and 2.
abbrev pub rows_read : (n : ℕ) → Option (Subtree n) → List Row
rows_read n None = []
rows_read n (Some node) = rows_in n node

-- The rows that stand below an id, from left to right. So at the id of a leaf, with none below, they are the leaf's.
abbrev pub rows_below : List Place → ℕ → NodeId → List Row
rows_below places below id = rows_read below (reads (map_of places) below id)
