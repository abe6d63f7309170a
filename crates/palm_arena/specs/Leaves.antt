-- The leaves of a tree, from left to right: where each is, and which keys go to it.
use Rattle.std.specs.Prelude.{ℕ, ◌-◌, nat_le, if◌then◌else◌, List, [], ◌∷◌, ◌++◌, Option, None, Some}
use Rattle.std.proofs.Common.{zero, suc}
use Rattle.palm_node.specs.InnerNode.{InnerNode}
use Rattle.palm_node.specs.declared.id.NodeId.{NodeId}
use Rattle.palm_node.specs.declared.node.Node.{Node}
use Rattle.palm_arena.specs.declared.shape.Shape.{Shape}
use Rattle.palm_arena.specs.Reads.{inner_in}

-- A leaf in a tree: its id, the way to it from the root, as inner nodes and the places of the children taken there, and
-- the key at which its range begins. The range goes up to where the next leaf's begins.
-- So of a root 0 over the leaves 1 and 2 with the separator 20, the second is (2, the child 1 of 0, 20).
pub record LeafPlace : Type 0 where
  pub leaf : NodeId
  pub path : List (NodeId × ℕ)
  pub low : ℕ

-- The leaves under these children of a node, the first of which is its child `i`, at these lows. `go` gives those under one
-- child by the path to it, its low and its id.
-- So of the root 0 with the lows 5, 20 and the ids 1, 2, from its child 0 on, they are those under 1 by the path (0, 0) and the
-- low 5, and those under 2 by the path (0, 1) and the low 20.
abbrev pub leaves_of_children : (List (NodeId × ℕ) → ℕ → NodeId → List LeafPlace) → List (NodeId × ℕ) → NodeId → ℕ → List ℕ → List NodeId → List LeafPlace
leaves_of_children go path id i lows [] = []
leaves_of_children go path id i [] (child ∷ children) = []
leaves_of_children go path id i (low ∷ lows) (child ∷ children) = go (path ++ (id, i) ∷ []) low child ++ leaves_of_children go path id (suc i) lows children

-- The leaves under a node: the first child's range begins where the node's does, and each other at its separator.
-- So under a node over 1 and 2 with the separator 20, whose range begins at 5, that of 1 begins at 5, and that of 2 at 20.
abbrev pub leaves_of_node : (List (NodeId × ℕ) → ℕ → NodeId → List LeafPlace) → List (NodeId × ℕ) → ℕ → NodeId → Option InnerNode → List LeafPlace
leaves_of_node go path low id None = []
leaves_of_node go path low id (Some inner) = leaves_of_children go path id 0 (low ∷ inner.separators) inner.children

-- The leaves so many levels below an id, where the path leads to it and its range begins at `low`.
-- So none below the id 1, on the path (0, 0) and from 5 on, they are the leaf 1 itself, with this path and this low.
abbrev pub leaves_under : (NodeId → Option Node) → ℕ → List (NodeId × ℕ) → ℕ → NodeId → List LeafPlace
leaves_under map zero path low id = record { leaf = id; path = path; low = low } ∷ []
leaves_under map (suc n) path low id = leaves_of_node (leaves_under map n) path low id (inner_in (map id))

-- The leaves of the tree at a shape. So those of the root 0 above are (1, the child 0 of 0, 0) and (2, the child 1 of 0, 20).
abbrev pub leaves_at : (NodeId → Option Node) → Shape → List LeafPlace
leaves_at map shape = leaves_under map (shape.levels - 1) [] 0 shape.root

-- The leaf whose range has a key: the last whose low is at most the key, and the first where there is none.
-- So of those above it is the second for 20 and 30, and the first for 19.
abbrev pub leaf_for : ℕ → List LeafPlace → Option LeafPlace
leaf_for k [] = None
leaf_for k (place ∷ []) = Some place
leaf_for k (place ∷ next ∷ places) =
    let later = leaf_for k (next ∷ places) in
    if nat_le next.low k then later else Some place
