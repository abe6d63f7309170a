-- Leaves that are lent with their plans, worked on, and given back.
use Rattle.std.specs.Prelude.{◌≡◌, ◌≢◌, ◌⊎◌, ◌≤◌, ℕ, List, [], ◌∷◌, length, map, Option, None, Some}
use Rattle.std.specs.List.{AllByRecursion}
use Rattle.palm_base.specs.declared.row.Row.{Row}
use Rattle.palm_node.specs.declared.id.NodeId.{NodeId}
use Rattle.palm_node.specs.declared.node.Node.{Node}
use Rattle.palm_node.specs.declared.node.Node.TheVariants.{Leaf}
use Rattle.palm_arena.specs.declared.place.Place.{Place}
use Rattle.palm_arena.specs.ArenaState.{IsLent}
use Rattle.palm_arena.specs.Cells.{Cell}
use Rattle.palm_route.specs.declared.part.Group.{Group}
use Rattle.palm_leaf.specs.Answers.{answers_in, rows_at, rows_in_node}
use Rattle.palm_leaf.specs.Routed.{written_low}
use Rattle.palm_leaf.specs.Ends.{end_of}
use Rattle.palm_leaf.specs.Worked.{IsPlan, parts_of_plan, answers_of_plan, outcome_of_plan}
use Rattle.palm_leaf.specs.declared.leaf_work.LeafWork.{LeafWork}

-- Each of these ids is lent, and no two are the same. So 1, 2 are where both are lent, and 1, 1 aren't.
abbrev pub AllLent : List Place → List NodeId → Type 0
AllLent places [] = Unit {0}
AllLent places (id ∷ ids) = IsLent places id × AllByRecursion (λ other. id ≢ other) ids × AllLent places ids

-- The id is one of these. So 2 is one of 1, 2, and 3 isn't.
abbrev pub IsOneOf : NodeId → List NodeId → Type 0
IsOneOf id [] = ⊥
IsOneOf id (other ∷ ids) = (id ≡ other) ⊎ IsOneOf id ids

-- These ids are lent, and no others. So in (Holds a, Lent, Lent) they are 1, 2, and not 1 alone.
pub record LentAre (places : List Place) (ids : List NodeId) : Type 0 where
  pub each : AllLent places ids
  pub only : (id : NodeId) → IsLent places id → IsOneOf id ids

-- The items that are there. So of Some a, None they are a.
abbrev pub present : {X : Type 0} → List (Option X) → List X
present [] = []
present (None ∷ items) = present items
present (Some x ∷ items) = x ∷ present items

-- The ids of the leaves that are lent for works. So those of a work on the leaf at 1 and one on the leaf at 2 are 1, 2.
abbrev pub lease_ids : List LeafWork → List NodeId
lease_ids works = map (λ work. work.lease.id) works

-- A leaf as its lease holds it. So that of a lease of the id 2 and the leaf b is (2, b).
abbrev pub lease_cell : LeafWork → Cell
lease_cell work = (work.lease.id, work.lease.node)

-- A group's leaf, lent with its plan.
-- So for a group of Set 44 90 on the leaf at 2, which is the child 1 of 0 from 20 on, the lease is of 2, and the plan has this
-- part, this way and the low 20.
pub record IsLoaded (nodes : NodeId → Option Node) (least : ℕ) (group : Group) (work : LeafWork) : Type 0 where
  pub id : work.lease.id ≡ group.leaf
  pub leaf : work.lease.node ≡ Leaf (rows_at nodes group.leaf)
  pub plan : IsPlan (length (rows_at nodes group.leaf)) work.plan
  pub parts : parts_of_plan work.plan ≡ group.parts
  pub path : work.plan.path.now ≡ group.path
  pub low : work.plan.low ≡ written_low group.path group.low
  pub least-is : work.plan.least ≡ least

-- A group's leaf after its work: its parts are answered, and it shows what becomes of the leaf.
-- So after Set 44 90 on the leaf of 44 120 with the least 0 the answer is 120, and the leaf is kept with the row 44 90.
pub record IsEnded (nodes : NodeId → Option Node) (least : ℕ) (group : Group) (work : LeafWork) : Type 0 where
  pub id : work.lease.id ≡ group.leaf
  pub leaf : (left : List Row) × (work.lease.node ≡ Leaf left)
  pub path : work.plan.path.now ≡ group.path
  pub few : length work.plan.later.items ≤ length group.parts
  pub answers : answers_of_plan work.plan ≡ answers_in (rows_at nodes group.leaf) group.parts
  pub outcome : outcome_of_plan (rows_in_node (Some work.lease.node)) work.plan ≡ (end_of nodes least group).outcome

-- Each of these leaves belongs to its group.
-- So where a group fits the works on its own leaf, those of 1, 2 match works on 1, 2, and neither on 2, 1 nor on 1 alone.
abbrev pub Matched : (Group → LeafWork → Type 0) → List Group → List LeafWork → Type 0
Matched Fits [] [] = Unit {0}
Matched Fits [] (work ∷ works) = ⊥
Matched Fits (group ∷ groups) [] = ⊥
Matched Fits (group ∷ groups) (work ∷ works) = Fits group work × Matched Fits groups works
