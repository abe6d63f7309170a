-- The groups of a pass, and its leaves with their parts.
use Rattle.std.specs.Prelude.{◌≡◌, ℕ, ◌==◌, if◌then◌else◌, List, [], ◌∷◌, map, sum_by, length, Option}
use Rattle.std.specs.List.{AllByRecursion}
use Rattle.palm_base.specs.Key.{IsKey}
use Rattle.palm_node.specs.declared.id.NodeId.{NodeId}
use Rattle.palm_node.specs.declared.node.Node.{Node}
use Rattle.palm_arena.specs.declared.shape.Shape.{Shape}
use Rattle.palm_arena.specs.Leaves.{leaves_at}
use Rattle.palm_arena.specs.Passes.{Pass}
use Rattle.palm_route.specs.Edits.{edits_of}
use Rattle.palm_route.specs.Groups.{groups_of}
use Rattle.palm_route.specs.declared.part.Ask.{Ask}
use Rattle.palm_route.specs.declared.part.Ask.TheVariants as ask
use Rattle.palm_route.specs.declared.part.Part.{Part}
use Rattle.palm_route.specs.declared.part.Group.{Group}

-- An edit goes by the key of a prefix. So a Set by the key of 44 does, and of a look-up or a list nothing is asked.
abbrev pub GoesByKey : ℕ → Ask → Type 0
GoesByKey k (ask.Set rate) = IsKey k
GoesByKey k ask.Del = IsKey k
GoesByKey k ask.Look = Unit {0}
GoesByKey k (ask.List from to limit) = Unit {0}

-- The part, where it is an edit, goes by the key of a prefix.
-- So a part with a Set by the key of 44 does, and one with a Set by 0 doesn't.
abbrev pub HasKey : Part → Type 0
HasKey part = GoesByKey part.key part.ask

-- The groups are those of a pass: they are the groups of some parts on its leaves, whose edits are the pass's and go by the
-- keys of prefixes, and the leaves to which the pass routes something are theirs.
-- So of the part of Set 44 90 alone, which goes to the leaf at 2, the one group is that of 2, the one edit Set 44 90, and the
-- one routed leaf 2.
pub record IsRouted (p : Pass) (nodes : NodeId → Option Node) (shape : Shape) (groups : List Group) (parts : List Part) : Type 0 where
  pub groups-are : groups ≡ groups_of (leaves_at nodes shape) parts
  pub edits-are : p.edits ≡ edits_of parts
  pub routed-are : p.routed ≡ map (λ group. group.leaf) groups
  pub keys : AllByRecursion HasKey parts

-- How many parts the groups have. So a group of two and a group of one have three.
abbrev pub parts_in : List Group → ℕ
parts_in groups = sum_by (λ group. length group.parts) groups

-- The low that a leaf's parent has written for it, by the way to the leaf and the key at which its range begins: 0 for the
-- root and for a first child, and else that key. So at the child 1 of 0, from 20 on, it is 20, and at the child 0 it is 0.
abbrev pub written_low : List (NodeId × ℕ) → ℕ → ℕ
written_low [] low = 0
written_low (step ∷ []) low = if step.1 == 0 then 0 else low
written_low (step ∷ next ∷ path) low = written_low (next ∷ path) low
