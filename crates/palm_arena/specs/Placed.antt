-- Trees with the ids that their nodes stand at.
use Rattle.std.specs.Prelude.{ℕ, List, [], ◌∷◌, map}
use Rattle.std.specs.List.{flat_map}
use Rattle.std.proofs.Common.{zero, suc}
use Rattle.palm_base.specs.Tree.{Subtree, Tree}
use Rattle.palm_base.specs.declared.row.Row.{Row}
use Rattle.palm_node.specs.declared.id.NodeId.{NodeId}
use Rattle.palm_node.specs.declared.id.Piece.{Piece}
use Rattle.palm_node.specs.declared.node.Node.{Node}
use Rattle.palm_node.specs.declared.node.Node.TheVariants.{Leaf, Inner}
use Rattle.palm_arena.specs.Cells.{Cell}
use Rattle.palm_arena.specs.Routes.{separators_of}

-- What stands below an id: the rows of a leaf, or the children of an inner node, each with its low and its id.
-- So below the root over the leaves 1 and 2 there are (0, (1, the rows of 1)) and (20, (2, the rows of 2)).
abbrev pub Body : ℕ → Type 0
Body zero = List Row
Body (suc n) = List (ℕ × (NodeId × Body n))

-- A node with its id and all that is under it. So the leaf of 44 120 at 1 is (1, the row 44 120).
abbrev pub Placed : ℕ → Type 0
Placed n = NodeId × Body n

-- A tree with its ids: how many levels stand below its root, and its root.
-- So the empty leaf at 3 is (0, (3, no rows)), and a root over leaves has 1 level below it.
abbrev pub PlacedTree : Type 0
PlacedTree = (n : ℕ) × Placed n

-- The value without the ids. So that of the root above is (0, the rows of 1), (20, the rows of 2).
abbrev pub value_in : (n : ℕ) → Body n → Subtree n
value_in zero rows = rows
value_in (suc n) children = map (λ child. (child.0, value_in n child.1.1)) children

-- Children, or pieces, without their ids. So the leaves (0, (1, a)), (20, (2, b)) are (0, a), (20, b).
abbrev pub values : (n : ℕ) → List (ℕ × Placed n) → List (ℕ × Subtree n)
values n children = map (λ child. (child.0, value_in n child.1.1)) children

-- The tree without its ids. So that of the empty leaf at 3 is (0, []), and so is that of the one at 4.
abbrev pub value_of : PlacedTree → Tree
value_of tree = (tree.0, value_in tree.0 tree.1.1)

-- The ids of children, in order. So those of (0, (1, a)), (20, (2, b)) are 1, 2.
abbrev pub ids_of_children : {B : Type 0} → List (ℕ × (NodeId × B)) → List NodeId
ids_of_children children = map (λ child. child.1.0) children

-- Children, or pieces, by their lows and ids alone. So (0, (1, a)), (20, (2, b)) are (0, 1), (20, 2).
abbrev pub bare : {B : Type 0} → List (ℕ × (NodeId × B)) → List Piece
bare children = map (λ child. record { low = child.0; id = child.1.0 }) children

-- The node that an arena holds for what stands below an id.
-- So for (0, (1, a)), (20, (2, b)) it has the children 1, 2 and the separator 20, and for the row 44 120 it is its leaf.
abbrev pub node_of : (n : ℕ) → Body n → Node
node_of zero rows = Leaf rows
node_of (suc n) children = Inner (record { children = ids_of_children children; separators = separators_of children })

-- A node with all that is under it, as cells. So those of the root above are its own and those of the leaves 1 and 2.
abbrev pub cells_of : (n : ℕ) → Placed n → List Cell
cells_of zero placed = (placed.0, Leaf placed.1) ∷ []
cells_of (suc n) placed =
    (placed.0, Inner (record { children = ids_of_children placed.1; separators = separators_of placed.1 })) ∷ flat_map (λ child. cells_of n child.1) placed.1

-- Children, or pieces, with all that is under them. So those of the leaves (0, (1, a)), (20, (2, b)) are (1, a), (2, b).
abbrev pub cells_under : (n : ℕ) → List (ℕ × Placed n) → List Cell
cells_under n children = flat_map (λ child. cells_of n child.1) children

-- Nodes under ids, as many as there are of both. So (0, a), (20, b) under 1 and 2 are (0, (1, a)), (20, (2, b)).
abbrev pub with_ids : {B : Type 0} → List NodeId → List (ℕ × B) → List (ℕ × (NodeId × B))
with_ids [] nodes = []
with_ids (id ∷ ids) [] = []
with_ids (id ∷ ids) (node ∷ nodes) = (node.0, (id, node.1)) ∷ with_ids ids nodes

-- The cells of inner nodes under ids, without what is under them.
-- So of a node over (0, (1, a)), (20, (2, b)) under 5 it is the one of 5 alone, with the children 1, 2 and the separator 20.
abbrev pub own_cells : (n : ℕ) → List NodeId → List (ℕ × Body (suc n)) → List Cell
own_cells n [] nodes = []
own_cells n (id ∷ ids) [] = []
own_cells n (id ∷ ids) (node ∷ nodes) = (id, node_of (suc n) node.1) ∷ own_cells n ids nodes
