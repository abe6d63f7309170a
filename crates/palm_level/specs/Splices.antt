-- The children of a node, with what stands for those that changed.
use Rattle.std.specs.Prelude.{◌+◌, ◌-◌, ◌<◌, ◌≤◌, ℕ, List, [], ◌∷◌, ◌++◌, length, take, drop, slice_index_or}
use Rattle.palm_node.specs.InnerNode.{InnerNode}
use Rattle.palm_node.specs.declared.id.NodeId.{NodeId}
use Rattle.palm_node.specs.declared.id.Piece.{Piece}
use Rattle.palm_node.specs.declared.change.Change.{Change}

-- The last step of a path: the node that it passes last, and the place of the child that it takes there.
-- So that of (0, 1), (4, 2) is (4, 2).
abbrev pub last_step : List (NodeId × ℕ) → NodeId × ℕ
last_step path = slice_index_or path (length path - 1) (record { place = 0 }, 0)

-- The path without its last step. So that of (0, 1), (4, 2) is (0, 1).
abbrev pub path_above : List (NodeId × ℕ) → List (NodeId × ℕ)
path_above path = take (length path - 1) path

-- The place of a changed child in its node. So that of a change with the path (0, 1), (3, 2) is 2.
abbrev pub child_place : Change → ℕ
child_place change = (last_step change.path).1

-- Ids with lows, as many as there are of both. So 0, 20 with a, b, c are (0, a), (20, b).
abbrev pub pieces_at : List ℕ → List NodeId → List Piece
pieces_at lows [] = []
pieces_at [] (id ∷ ids) = []
pieces_at (low ∷ lows) (id ∷ ids) = record { low = low; id = id } ∷ pieces_at lows ids

-- The children of a node with their lows. So those of a, b with the separator 20 are (0, a), (20, b).
abbrev pub children_of : InnerNode → List Piece
children_of node = pieces_at (0 ∷ node.separators) node.children

-- The children from the place `from` on, where each changed child gives way to its pieces.
-- So a, b, c is a, p, q, c from 0 on where p, q stand for the child at 1.
abbrev pub spliced : ℕ → List Piece → List Change → List Piece
spliced from children [] = drop from children
spliced from children (change ∷ changes) =
    take (child_place change - from) (drop from children) ++ (change.pieces ++ spliced (child_place change + 1) children changes)

-- What is left of a node's children: those that didn't change, and the pieces of those that did.
-- So of a, b with the separator 20, where (20, b), (30, c) stand for b, it is (0, a), (20, b), (30, c).
abbrev pub children_left : InnerNode → List Change → List Piece
children_left node changes = spliced 0 (children_of node) changes

-- The places of the changed children rise, from `from` on and below `most`. So 1, 3 rise from 1 on and below 4.
abbrev pub PlacesRise : ℕ → ℕ → List Change → Type 0
PlacesRise from most [] = from ≤ most
PlacesRise from most (change ∷ changes) = (from ≤ child_place change) × (child_place change < most) × PlacesRise (child_place change + 1) most changes
