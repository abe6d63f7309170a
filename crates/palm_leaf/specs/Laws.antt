-- The laws of the leaves' answers, which a function of the module of laws carries.
use Rattle.std.specs.Prelude.{◌≡◌, List, drop, Option}
use Rattle.std.specs.List.{flat_map, AllByRecursion}
use Rattle.palm_base.specs.Tree.{Tree, rows_of}
use Rattle.palm_base.specs.Lawful.{IsLawful}
use Rattle.palm_node.specs.declared.id.NodeId.{NodeId}
use Rattle.palm_node.specs.declared.node.Node.{Node}
use Rattle.palm_arena.specs.declared.shape.Shape.{Shape}
use Rattle.palm_arena.specs.Leaves.{leaves_at}
use Rattle.palm_arena.specs.Reads.{ReadsAs}
use Rattle.palm_route.specs.Groups.{groups_of}
use Rattle.palm_route.specs.Parts.{lows_of}
use Rattle.palm_route.specs.declared.part.Ask.{Ask}
use Rattle.palm_route.specs.declared.part.Ask.TheVariants as ask
use Rattle.palm_route.specs.declared.part.Part.{Part}
use Rattle.palm_leaf.specs.Answers.{answers_in, rows_at}
use Rattle.palm_leaf.specs.Ranged.{ranged_answers}
use Rattle.palm_leaf.specs.Routed.{HasKey}
use Rattle.palm_leaf.specs.Spread.{spread}

-- The ask is for a rate. So a Set's, a Del's and a look-up are, and a List's isn't.
abbrev pub AsksRate : Ask → Type 0
AsksRate (ask.Set rate) = Unit {0}
AsksRate ask.Del = Unit {0}
AsksRate ask.Look = Unit {0}
AsksRate (ask.List from to limit) = ⊥

-- The part asks for a rate. So a part of Set 44 90 does, and one of a List doesn't.
abbrev pub IsForRate : Part → Type 0
IsForRate part = AsksRate part.ask

-- What the touched leaves of a lawful tree answer their parts, from left to right, is what all parts are answered one after
-- another, each on those of the table's rows that stand in the range of its leaf, spread over the leaves. It holds of parts
-- whose edits go by keys of prefixes.
-- So where the second leaf begins at 20, a Set of 25 and then a List from 10 to 25 by its keys 10 and 20 are answered the rows
-- from 10 on of the first leaf, what the Set found, and the rows up to 25 of the second leaf, with the row that was set.
abbrev pub TheLeavesAnswer : Type 0
TheLeavesAnswer =
    (nodes : NodeId → Option Node) (shape : Shape) (tree : Tree) (parts : List Part) → ReadsAs nodes shape tree → IsLawful tree → AllByRecursion HasKey parts
    → let lows = drop 1 (lows_of (leaves_at nodes shape)) in
    flat_map (λ group. answers_in (rows_at nodes group.leaf) group.parts) (groups_of (leaves_at nodes shape) parts)
    ≡ spread (λ answer. answer.part.key) lows (ranged_answers lows (rows_of tree) parts)

-- Of parts that ask for a rate it is what the whole table answers, since a key's row stands in the key's own range.
-- So where the second leaf begins at 20, Set 25 5, Set 10 6 and a look-up of 25 are answered 10 first, and then both by 25, of
-- which the look-up finds 5.
abbrev pub TheLeavesAnswerRates : Type 0
TheLeavesAnswerRates =
    (nodes : NodeId → Option Node) (shape : Shape) (tree : Tree) (parts : List Part)
    → ReadsAs nodes shape tree → IsLawful tree → AllByRecursion HasKey parts → AllByRecursion IsForRate parts
    → flat_map (λ group. answers_in (rows_at nodes group.leaf) group.parts) (groups_of (leaves_at nodes shape) parts)
    ≡ spread (λ answer. answer.part.key) (drop 1 (lows_of (leaves_at nodes shape))) (answers_in (rows_of tree) parts)
