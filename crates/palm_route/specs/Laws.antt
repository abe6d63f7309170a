-- The laws of routing, which functions of the module of laws carry.
use Rattle.std.specs.Prelude.{◌≡◌, ℕ, ◌≤◌, List, length, map, filter, Option, Some}
use Rattle.std.specs.List.{AllByRecursion}
use Rattle.palm_base.specs.History.{calls_of}
use Rattle.palm_base.specs.Pass.{is_edit}
use Rattle.palm_base.specs.Tree.{Tree}
use Rattle.palm_base.specs.declared.call.Entry.{Entry}
use Rattle.palm_node.specs.declared.id.NodeId.{NodeId}
use Rattle.palm_node.specs.declared.node.Node.{Node}
use Rattle.palm_arena.specs.Leaves.{LeafPlace, leaves_at, leaf_for}
use Rattle.palm_arena.specs.Reads.{HasTree, ReadsAs}
use Rattle.palm_arena.specs.declared.shape.Shape.{Shape}
use Rattle.palm_route.specs.Counts.{parts_on}
use Rattle.palm_route.specs.Edits.{EditsPrefix, edits_of}
use Rattle.palm_route.specs.Groups.{LowsRise}
use Rattle.palm_route.specs.Meets.{leaves_met, first_key}
use Rattle.palm_route.specs.Parts.{lows_of, list_keys, parts_of}

-- The ranges of a lawful tree's leaves begin one after another. So over the separators 20 and 30 they begin at 0, 20 and 30.
abbrev pub LeavesRise : Type 0
LeavesRise = (nodes : NodeId → Option Node) (shape : Shape) → HasTree nodes shape → LowsRise (leaves_at nodes shape)

-- A lawful tree has a leaf. So the empty tree has one, its root.
abbrev pub LeavesAreThere : Type 0
LeavesAreThere = (nodes : NodeId → Option Node) (shape : Shape) → HasTree nodes shape → 1 ≤ length (leaves_at nodes shape)

-- A List is routed by the least key that each leaf that it meets has of its own. So over the lows 0, 20 and 30 a List from 10
-- to 25 is routed by 10 and 20.
abbrev pub ListsMeetLeaves : Type 0
ListsMeetLeaves =
    (nodes : NodeId → Option Node) (shape : Shape) (from to : ℕ) → HasTree nodes shape → from ≤ to
    → list_keys from to (lows_of (leaves_at nodes shape)) ≡ map (first_key from) (leaves_met from to (leaves_at nodes shape))

-- Each of these keys goes to the leaf that it was made for.
-- So over the lows 0, 20 and 30 the keys of a List from 10 to 25 go home: 10 to the first leaf, and 20 to the second.
abbrev pub KeysComeHome : Type 0
KeysComeHome =
    (nodes : NodeId → Option Node) (shape : Shape) (from to : ℕ) → HasTree nodes shape
    → AllByRecursion (λ place. leaf_for (first_key from place) (leaves_at nodes shape) ≡ Some place) (leaves_met from to (leaves_at nodes shape))

-- The edits among the parts of entries are those among their calls, in the same order, where they are of prefixes.
-- So those of Set 44 5, Get 44 and Del 4 are Set 44 5 and Del 4, whatever the leaves are.
abbrev pub PartsKeepEdits : Type 0
PartsKeepEdits =
    (places : List LeafPlace) (first : ℕ) (entries : List Entry) → AllByRecursion (λ entry. EditsPrefix entry.call) entries
    → edits_of (parts_of places first entries) ≡ filter is_edit (calls_of entries)

-- The parts of a batch are as many as the value of the tree says that the leaves are of. So on a root over two leaves with the
-- separator 20, a Get and a List from 10 to 25 have 3, at whatever ids the nodes stand.
abbrev pub PartsAreCounted : Type 0
PartsAreCounted =
    (nodes : NodeId → Option Node) (shape : Shape) (tree : Tree) (first : ℕ) (batch : List Entry) → ReadsAs nodes shape tree
    → length (parts_of (leaves_at nodes shape) first batch) ≡ parts_on tree batch
