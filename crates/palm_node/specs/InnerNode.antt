-- An inner node: its children and what stands between them.
use Rattle.std.specs.Prelude.{◌≡◌, ℕ, ◌+◌, ◌-◌, ◌<◌, ◌≤◌, List, [], ◌∷◌, length, map, take, drop}
use Rattle.std.specs.List.{AllByRecursion}
use Rattle.std.specs.List.Sorted.{IsStrictlyIncreasing}
use Rattle.palm_base.specs.declared.bounds.TheConstants.{MOST_CHILDREN}
use Rattle.palm_node.specs.declared.id.NodeId.{NodeId}
use Rattle.palm_node.specs.declared.id.Piece.{Piece}

-- Children from left to right, and between each two of them the key at which the right one begins.
-- So the children a, b and c with the separators 20, 30 are asked for the keys below 20, from 20 on, and from 30 on.
pub record InnerNode : Type 0 where
  pub children : List NodeId
  pub separators : List ℕ

-- At least one child, no more than there is room for, one separator fewer, and the separators strictly rise.
-- So the children a, b and c with the separators 20, 30 are a node, and with 30, 20 or with 20 alone they aren't.
pub record IsInner (node : InnerNode) : Type 0 where
  pub some : 1 ≤ length node.children
  pub few : length node.children ≤ MOST_CHILDREN
  pub between : length node.separators + 1 ≡ length node.children
  pub rising : IsStrictlyIncreasing node.separators

-- The children and the words for separators hold a node: one word fewer than there are children counts.
-- So the children a and b and the words 20, 0, .. , 0 hold the node with the separator 20.
pub record HoldsChildren (children : List NodeId) (words : List ℕ) : Type 0 where
  pub room : length words ≡ MOST_CHILDREN
  pub some : 1 ≤ length children
  pub few : length children ≤ MOST_CHILDREN
  pub rising : IsStrictlyIncreasing (take (length children - 1) words)

-- Each number is below all later ones. So 3, 7, 9 rise.
abbrev pub Rise : List ℕ → Type 0
Rise [] = Unit {0}
Rise (first ∷ later) = AllByRecursion (λ number. first < number) later × Rise later

-- The lows of pieces, but that of the first. So those of (3, a), (20, b) are 20.
abbrev pub later_lows : List Piece → List ℕ
later_lows pieces = map (λ piece. piece.low) (drop 1 pieces)

-- The inner node over pieces. So over (3, a), (20, b) it is that of the children a and b with the separator 20.
abbrev pub inner_over : List Piece → InnerNode
inner_over pieces = record { children = map (λ piece. piece.id) pieces; separators = later_lows pieces }
