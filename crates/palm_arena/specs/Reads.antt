-- What the nodes of an arena are as a tree.
use Rattle.std.specs.Prelude.{◌≡◌, ◌==◌, ◌-◌, ℕ, Bool, List, [], ◌∷◌, Option, None, Some, IsSome}
use Rattle.std.specs.List.{flat_map, Contains, IsDistinct}
use Rattle.std.proofs.Common.{zero, suc}
use Rattle.palm_base.specs.Tree.{Subtree, Tree, levels_of}
use Rattle.palm_base.specs.Lawful.{IsLawful}
use Rattle.palm_base.specs.Lows.{LowsAreKeys}
use Rattle.palm_base.specs.declared.row.Row.{Row}
use Rattle.palm_node.specs.InnerNode.{InnerNode}
use Rattle.palm_node.specs.declared.id.NodeId.{NodeId}
use Rattle.palm_node.specs.declared.node.Node.{Node}
use Rattle.palm_node.specs.declared.node.Node.TheVariants.{Leaf, Inner}
use Rattle.palm_arena.specs.declared.place.Place.{Place}
use Rattle.palm_arena.specs.declared.shape.Shape.{Shape}
use Rattle.palm_arena.specs.ArenaState.{node_at}

-- The map from live ids to nodes that places are. So (Holds a, Lent) map 0 to a, and nothing else.
abbrev pub map_of : List Place → NodeId → Option Node
map_of places = node_at places

-- The rows of a leaf. So there are none where an inner node stands, or nothing.
abbrev pub leaf_in : Option Node → Option (List Row)
leaf_in None = None
leaf_in (Some (Leaf rows)) = Some rows
leaf_in (Some (Inner inner)) = None

-- An inner node. So there is none where a leaf stands, or nothing.
abbrev pub inner_in : Option Node → Option InnerNode
inner_in None = None
inner_in (Some (Leaf rows)) = None
inner_in (Some (Inner inner)) = Some inner

-- A child with its low before the others, where all of them read.
-- So b at 20 before (30, c) is (20, b), (30, c), and there is nothing where b or the others don't read.
abbrev pub with_child : {T : Type 0} → ℕ → Option T → Option (List (ℕ × T)) → Option (List (ℕ × T))
with_child low None children = None
with_child low (Some child) None = None
with_child low (Some child) (Some children) = Some ((low, child) ∷ children)

-- The children at these ids with these lows, as many of both, where all of them read.
-- So at the lows 0, 20 and the ids 1, 2 they are (0, what 1 reads as) and (20, what 2 reads as).
abbrev pub children_at : {T : Type 0} → (NodeId → Option T) → List ℕ → List NodeId → Option (List (ℕ × T))
children_at read [] [] = Some []
children_at read (low ∷ lows) [] = None
children_at read [] (id ∷ ids) = None
children_at read (low ∷ lows) (id ∷ ids) = with_child low (read id) (children_at read lows ids)

-- The children of an inner node: the first has the low 0, and each other the separator before it.
-- So those of 1, 2 with the separator 20 have the lows 0 and 20.
abbrev pub children_in : {T : Type 0} → (NodeId → Option T) → Option InnerNode → Option (List (ℕ × T))
children_in read None = None
children_in read (Some inner) = children_at read (0 ∷ inner.separators) inner.children

-- What a map reads as at an id, with so many levels below it: with none a leaf's rows, and above them the children of an
-- inner node, each of which has to read one level below. So where 0 is an inner node of 1 and 2 with the separator 20,
-- and these are the leaves a and b, it reads as (0, a), (20, b) with one level below, and as nothing with none or two.
abbrev pub reads : (NodeId → Option Node) → (n : ℕ) → NodeId → Option (Subtree n)
reads map zero id = leaf_in (map id)
reads map (suc n) id = children_in (reads map n) (inner_in (map id))

-- A map reads as a tree at its root and with its levels. So the one above does at the root 0 with 2 levels.
abbrev pub ReadsAs : (NodeId → Option Node) → Shape → Tree → Type 0
ReadsAs map shape tree = (shape.levels ≡ levels_of tree) × (reads map tree.0 shape.root ≡ Some tree.1)

-- A map reads at a shape as a lawful tree, whose lows are keys of prefixes. So the one above does where a and b have 8 rows
-- each, those of a below 20 and those of b from 20 on.
pub record HasTree (map : NodeId → Option Node) (shape : Shape) : Type 0 where
  pub tree : Tree
  pub reads-as : ReadsAs map shape tree
  pub lawful : IsLawful tree
  pub lows : LowsAreKeys tree

-- The ids of the children of a node. A leaf has none. So those of an inner node over 1 and 2 are 1, 2.
abbrev pub child_ids : Option InnerNode → List NodeId
child_ids None = []
child_ids (Some inner) = inner.children

-- The id, and those under it, so many levels down, from left to right. So under 0 above, one level down, 0, 1 and 2.
abbrev pub ids_under : (NodeId → Option Node) → ℕ → NodeId → List NodeId
ids_under map zero id = id ∷ []
ids_under map (suc n) id = id ∷ flat_map (ids_under map n) (child_ids (inner_in (map id)))

-- The ids of a tree. So those of the one above are 0, 1 and 2.
abbrev pub ids_of : (NodeId → Option Node) → Shape → List NodeId
ids_of map shape = ids_under map (shape.levels - 1) shape.root

-- Whether two ids are of one place. So 1 and 1 are, and 1 and 2 aren't.
abbrev pub same_place : NodeId → NodeId → Bool
same_place id other = id.place == other.place

-- A map is a tree and nothing more: it reads as one, no id is met twice in it, and each live id is met. So the one above is
-- whole at the root 0 with 2 levels, and not with a leaf at 3 besides.
pub record IsWhole (map : NodeId → Option Node) (shape : Shape) : Type 0 where
  pub tree : (tree : Tree) × ReadsAs map shape tree
  pub once : IsDistinct same_place (ids_of map shape)
  pub met : (id : NodeId) → IsSome (map id) → Contains (ids_of map shape) id
