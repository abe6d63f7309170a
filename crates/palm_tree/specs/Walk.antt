-- A tree's nodes level by level, as the ids of an arena give them.
use Rattle.std.specs.Prelude.{ℕ, List, [], ◌++◌, length, codes, Option, None, Some}
use Rattle.std.specs.List.{flat_map, AllByRecursion}
use Rattle.std.specs.Fmt.{decimal}
use Rattle.std.proofs.Common.{zero, suc}
use Rattle.palm_base.specs.Key.{IsKey}
use Rattle.palm_base.specs.Shape.{leaf_line, separator_text}
use Rattle.palm_node.specs.InnerNode.{InnerNode}
use Rattle.palm_node.specs.declared.id.NodeId.{NodeId}
use Rattle.palm_node.specs.declared.node.Node.{Node}
use Rattle.palm_node.specs.declared.node.Node.TheVariants.{Leaf, Inner}
use Rattle.palm_arena.specs.Reads.{inner_in, child_ids}

-- The line of an inner node: how many children it has, and its separators. So for three children with the keys of 20 and 30
-- between them it is "inner 3 20 30".
abbrev pub inner_text : InnerNode → List ℕ
inner_text inner = codes "inner " ++ (decimal (length inner.children) ++ (flat_map separator_text inner.separators ++ codes "\n"))

-- The line of a node. Where there is none, nothing. So that of a leaf of 10 at 5 is "leaf 1 10 5".
abbrev pub node_text : Option Node → List ℕ
node_text None = []
node_text (Some (Leaf rows)) = leaf_line rows
node_text (Some (Inner inner)) = inner_text inner

-- The lines of the nodes at these ids. So for the leaves at 1 and 2 they are two lines that begin with "leaf".
abbrev pub nodes_text : (NodeId → Option Node) → List NodeId → List ℕ
nodes_text nodes ids = flat_map (λ id. node_text (nodes id)) ids

-- The ids of the children of the nodes at these ids. So for an inner node over 1 and 2 they are 1 and 2.
abbrev pub ids_below : (NodeId → Option Node) → List NodeId → List NodeId
ids_below nodes ids = flat_map (λ id. child_ids (inner_in (nodes id))) ids

-- The lines of the nodes at these ids, and of so many levels with theirs. So for a root over two leaves two levels are
-- three lines.
abbrev pub levels_text : (NodeId → Option Node) → ℕ → List NodeId → List ℕ
levels_text nodes zero ids = []
levels_text nodes (suc n) ids = nodes_text nodes ids ++ levels_text nodes n (ids_below nodes ids)

-- There is a node, and its separators are keys of prefixes. So a leaf is printable, and an inner node with the separator 7
-- isn't.
abbrev pub IsPrintable : Option Node → Type 0
IsPrintable None = ⊥
IsPrintable (Some (Leaf rows)) = Unit {0}
IsPrintable (Some (Inner inner)) = AllByRecursion IsKey inner.separators

-- The same of so many levels. So two levels are, of a root over leaves with the separator of 20.
abbrev pub ArePrintable : (NodeId → Option Node) → ℕ → List NodeId → Type 0
ArePrintable nodes zero ids = Unit {0}
ArePrintable nodes (suc n) ids = AllByRecursion (λ id. IsPrintable (nodes id)) ids × ArePrintable nodes n (ids_below nodes ids)
