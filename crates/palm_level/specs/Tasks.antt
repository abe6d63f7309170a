-- The work on the touched nodes of a level, while their nodes are lent, and what it comes to.
use Rattle.std.specs.Prelude.{◌≡◌, ◌+◌, ℕ, Bool, true, false, if◌then◌else◌, List, [], ◌∷◌, ◌++◌, length, map, drop, reverse, sum_by, ◌≢◌, Option, None, Some, IsSome}
use Rattle.std.specs.List.{flat_map, AllByRecursion}
use Rattle.palm_node.specs.InnerNode.{InnerNode}
use Rattle.palm_node.specs.declared.id.NodeId.{NodeId}
use Rattle.palm_node.specs.declared.id.Piece.{Piece}
use Rattle.palm_node.specs.declared.node.Node.{Node}
use Rattle.palm_node.specs.declared.node.Node.TheVariants.{Inner}
use Rattle.palm_node.specs.declared.change.Change.{Change}
use Rattle.palm_node.specs.declared.change.Changes.{Changes}
use Rattle.palm_node.specs.declared.change.Removed.{Removed}
use Rattle.palm_arena.specs.declared.place.Place.{Place}
use Rattle.palm_arena.specs.declared.place.Place.TheVariants.{Empty, Lent, Holds}
use Rattle.palm_arena.specs.ArenaState.{ArenaState, IsLent, place_at, node_at, with_place}
use Rattle.palm_arena.specs.Reads.{map_of, inner_in, same_place}
use Rattle.palm_arena.specs.Cells.{Cell, Turns}
use Rattle.palm_level.specs.Splices.{children_left}
use Rattle.palm_level.specs.Works.{IsReady, HasRun, first_node, parts_left, later_over}
use Rattle.palm_level.specs.Groups.{Touched, Group, cells_at, named_pieces, is_still, group_nodes, cells_before, cells_after, group_change, group_removed}
use Rattle.palm_level.specs.Plans.{CanWork, touched_by, planned_key}
use Rattle.palm_level.specs.declared.node_work.LaterNode.{LaterNode}
use Rattle.palm_level.specs.declared.node_work.LevelWork.{LevelWork}
use Rattle.palm_level.specs.declared.plan.Planned.{Planned}
use Rattle.palm_level.specs.declared.plan.Room.{Room}
use Rattle.palm_level.specs.declared.task.Task.{Task}

-- ---- what is lent

-- How often a place is lent: once where it is. So it is 1 of Lent, and 0 of Empty and of a place that holds a leaf.
abbrev pub lent_at : Place → ℕ
lent_at Empty = 0
lent_at Lent = 1
lent_at (Holds node) = 0

-- Once where it is so, and else not at all. So true is 1, and false 0.
abbrev pub times_if : Bool → ℕ
times_if true = 1
times_if false = 0

-- How often a work has the lease of an id. So one with the lease of 3 has that of 3 once, and that of 4 not at all.
abbrev pub times_worked : NodeId → Option LevelWork → ℕ
times_worked id None = 0
times_worked id (Some work) = times_if (same_place work.lease.id id)

-- The same of a task: how often its work has the lease of an id.
-- So one whose work has the lease of 3 has it once, and one without a work not at all.
abbrev pub times_in : NodeId → Option Task → ℕ
times_in id None = 0
times_in id (Some task) = times_worked id task.work

-- The leases of the tasks are of the places that are lent, one each.
-- So with (Empty, Lent, Lent) one task has the lease of 1, one that of 2, and any others have none.
abbrev pub LentTo : List Place → List (Option Task) → Type 0
LentTo places tasks = (id : NodeId) → sum_by (times_in id) tasks ≡ lent_at (place_at places id)

-- The lease of a work comes home, where there is a work.
-- So with the lease of 1 the places (Empty, Lent, Lent) may become (Empty, Holds a, Lent), and not (Empty, Lent, Lent).
abbrev pub ComesHome : List Place → List Place → Option LevelWork → Type 0
ComesHome old new work = (id : NodeId) → lent_at (place_at new id) + times_worked id work ≡ lent_at (place_at old id)

-- ---- what a task is of

-- A touched node that stands for none. So its id and its low are 0, and it has no path and no changes.
abbrev pub no_one : Touched
no_one = record { id = record { place = 0 }; path = []; low = 0; changes = [] }

-- The touched node of a task. So for one of the node 3 with the path (0, 1) and the low 20 it has these and the changes, and
-- without a task it stands for none.
abbrev pub task_key : Option Task → Touched
task_key None = no_one
task_key (Some task) = touched_by task.parent

-- A node at an id, where there is one. So with the leaf a at 3 it is (3, a), and with nothing at 3 there is none.
abbrev pub cell_in : NodeId → Option Node → List Cell
cell_in id None = []
cell_in id (Some node) = (id, node) ∷ []

-- The cell of a touched node, where it is lent.
-- So of the node n at 3 it is (3, n) where its leaf 7 was cut in two, and there is none where 7 stands for itself.
abbrev pub lent_of : (NodeId → Option Node) → Touched → List Cell
lent_of nodes touched = let own = cell_in touched.id (nodes touched.id) in if is_still touched.changes then [] else own

-- A work may run on the node that a map has at an id. So on 3 it has the lease of 3 with what the map has there where
-- (20, 7), (30, 9) stand for its child 7, and where (20, 7) alone does there has to be no work.
abbrev pub WorkIsReady : (NodeId → Option Node) → NodeId → List Change → Option LevelWork → Type 0
WorkIsReady nodes id changes None = is_still changes ≡ true
WorkIsReady nodes id changes (Some work) =
    (is_still changes ≡ false) × (work.lease.id ≡ id) × (nodes id ≡ Some work.lease.node) × (work.changes.now ≡ changes) × IsReady work

-- A task is ready: its node is an inner node of the map, that is lent to it where its children changed in number or place.
-- So one of 3 has a work with the lease of 3 where a leaf of 3 was cut in two, and no work where each stands for itself.
abbrev pub TaskIsReady : (NodeId → Option Node) → Option Task → Type 0
TaskIsReady nodes None = ⊥
TaskIsReady nodes (Some task) = CanWork nodes task.parent.node task.parent.changes.now × WorkIsReady nodes task.parent.node task.parent.changes.now task.work

-- A work has made the node anew that a map had at an id. So where 17 children are left at 3, the lease of 3 has the node over
-- the first 9, and the one later node is over the other 8.
abbrev pub WorkIsDone : (NodeId → Option Node) → NodeId → List Change → Option LevelWork → Type 0
WorkIsDone nodes id changes None = is_still changes ≡ true
WorkIsDone nodes id changes (Some work) =
    (is_still changes ≡ false) × (work.lease.id ≡ id)
    × ((node : InnerNode) → nodes id ≡ Some (Inner node)
    → (work.lease.node ≡ Inner (first_node node (parts_left node changes)))
    × (work.children.items ≡ children_left node changes)
    × (work.later.items ≡ map later_over (drop 1 (parts_left node changes))))

-- A task is done: its work has made its node anew. So one of the node 3, left with 17 children, has nodes of 9 and 8, and one
-- whose children all stand for themselves is done without a work.
abbrev pub TaskIsDone : (NodeId → Option Node) → Option Task → Type 0
TaskIsDone nodes None = ⊥
TaskIsDone nodes (Some task) = CanWork nodes task.parent.node task.parent.changes.now × WorkIsDone nodes task.parent.node task.parent.changes.now task.work

-- ---- when a task may run, and what it leaves

-- A work may be run, where there is one. So one that will leave 17 children has room for 17 of them and for one later node,
-- and where there is none nothing is asked.
abbrev pub WorkMayRun : Option LevelWork → Type 0
WorkMayRun None = Unit {0}
WorkMayRun (Some work) = IsReady work

-- A work was run, where there was one, and there is still none where there was none.
-- So one that leaves 17 children has become one with nodes of 9 and 8, and not None.
abbrev pub WorkRan : Option LevelWork → Option LevelWork → Type 0
WorkRan None None = Unit {0}
WorkRan None (Some after) = ⊥
WorkRan (Some before) None = ⊥
WorkRan (Some before) (Some after) = HasRun before after

-- A task was run: it is of the same node, and its work was run.
-- So one of 3 is still of 3 with its path and low, and where 17 children are left its work has nodes of 9 and 8.
pub record TaskRan (before after : Task) : Type 0 where
  pub parent : touched_by after.parent ≡ touched_by before.parent
  pub work : WorkRan before.work after.work

-- What lends a node to a work, where there is room for one: the node of its parent. So with room for 3 the work has a lease
-- of 3 with the node that stood there, and 3 is lent and is the last id that moved. Without room nothing changes.
abbrev pub WorkStarts : Planned → ArenaState → ArenaState → Option Room → Option LevelWork → Type 0
WorkStarts planned old new None None = new ≡ old
WorkStarts planned old new None (Some work) = ⊥
WorkStarts planned old new (Some room) None = ⊥
WorkStarts planned old new (Some room) (Some work) =
    (work.lease.id ≡ planned.parent.node) × (node_at old.places planned.parent.node ≡ Some work.lease.node)
    × (work.changes.now ≡ planned.parent.changes.now) × (work.children ≡ room.children) × (work.later ≡ room.later)
    × (new ≡ record old { places = with_place old.places planned.parent.node Lent; moved = old.moved ++ planned.parent.node ∷ [] })

-- A task began with what was planned: it is of the same node, whose lease its work has.
-- So that of 3 has the path, the low and the changes that were planned, and where there is room its work has the lease of 3.
pub record Starts (planned : Planned) (old new : ArenaState) (task : Task) : Type 0 where
  pub key : touched_by task.parent ≡ touched_by planned.parent
  pub work : WorkStarts planned old new planned.room task.work

-- The node of what is planned is in the arena, where it is to be lent.
-- So with room for the node 1 it is so in (Empty, Holds a) and not in (Holds a, Lent), and without room it is so in both.
abbrev pub IsThere : List Place → Planned → Option Room → Type 0
IsThere places planned None = Unit {0}
IsThere places planned (Some room) = IsSome (node_at places planned.parent.node)

-- ---- what stands for a node afterwards

-- A node that stays as it is stands for itself.
-- So the touched node 3 with the path (0, 1) and the low 20 has the same path and the one piece (20, 3).
abbrev pub itself : Touched → Change
itself touched = record { node = touched.id; path = touched.path; pieces = record { low = touched.low; id = touched.id } ∷ [] }

-- What becomes of a group's node, whether it is made anew or not. So the node 3 with the low 20 has the piece (20, 3) where
-- all of its 8 children stand for themselves, and no piece where one of them went.
abbrev pub change_for : Group → Change
change_for group = let made = group_change group in if is_still group.touched.changes then itself group.touched else made

-- What a group removes, and nothing where its node stays as it is.
-- So on the level 2 it is 3 at the level 2 where one of the 8 children of 3 went, and nothing where all stand for themselves.
abbrev pub removed_for : ℕ → Group → List Removed
removed_for level group = let made = group_removed level group in if is_still group.touched.changes then [] else made

-- What is lent of a group: its node, where that is made anew.
-- So of the node n at 3 it is (3, n) where a child was cut in two, and nothing where each stands for itself.
abbrev pub lent_for : Group → List Cell
lent_for group = let own = cells_before group in if is_still group.touched.changes then [] else own

-- What stands for a group's node where it is made anew. So with the ids 3 and 9, and one of 16 children cut in two, they are
-- nodes of 9 and 8 at 3 and 9, and where each stands for itself there is none.
abbrev pub made_for : Group → List Cell
made_for group = let made = cells_after group in if is_still group.touched.changes then [] else made

-- The group has the node that a map had at its id, and as many ids as there is left of it.
-- So with n at 3 in the map, and one of its 16 children cut in two, it has n and two ids.
pub record IsGroup (nodes : NodeId → Option Node) (group : Group) : Type 0 where
  pub held : nodes group.touched.id ≡ Some (Inner group.node)
  pub ids : is_still group.touched.changes ≡ false → length group.ids ≡ length (group_nodes group)

-- The arena after a task gave its node back and took the ids that it needs, and the changes with what became of the node.
-- So where one of the 16 children of 3 was cut in two and 9 was taken, the map has nodes of 9 and 8 more, at 3 and 9, and their
-- two pieces are listed for 3.
pub record Finishes (nodes : NodeId → Option Node) (level : ℕ) (touched : Touched) (old new : ArenaState) (before after : Changes) : Type 0 where
  pub group : Group
  pub is : group.touched ≡ touched
  pub is-group : IsGroup nodes group
  pub turns : Turns (map_of old.places) (map_of new.places) [] (made_for group)
  pub changed : after.nodes ≡ before.nodes ++ change_for group ∷ []
  pub removed : after.removed ≡ before.removed ++ removed_for level group
  pub loose : after.loose ≡ before.loose

-- ---- giving back

-- A later node, after its low. So the one of the low 20 and the node n is (20, n).
abbrev pub as_node : LaterNode → ℕ × InnerNode
as_node later = (later.low, later.node)

-- Later nodes took ids, and were listed as pieces.
-- So where one of the low 20 and the node n took 9, the piece (20, 9) is listed last, and the map has n at 9.
pub record Took (old new : ArenaState) (before after : List Piece) (later : List LaterNode) : Type 0 where
  pub ids : List NodeId
  pub many : length ids ≡ length later
  pub pieces : after ≡ before ++ named_pieces ids (map as_node later)
  pub turns : Turns (map_of old.places) (map_of new.places) [] (cells_at ids (map as_node later))

-- As many places are lent as before, each the same.
-- So they are in (Lent, Empty) and then (Lent, Holds a), and not in (Lent, Empty) and then (Holds a, Empty).
abbrev pub SameLent : List Place → List Place → Type 0
SameLent old new = (id : NodeId) → lent_at (place_at new id) ≡ lent_at (place_at old id)

-- A work has made this node anew over what stands for these changes. So where one of 16 children was cut in two, it has the
-- node over the first 9 in its lease, all 17 listed, and one later node over the other 8.
pub record MadeOf (node : InnerNode) (changes : List Change) (work : LevelWork) : Type 0 where
  pub own : work.lease.node ≡ Inner (first_node node (parts_left node changes))
  pub children : work.children.items ≡ children_left node changes
  pub later : work.later.items ≡ map later_over (drop 1 (parts_left node changes))

-- A group's node was put back, with what is left of it under its ids. So with the ids 3 and 9 and 17 children left there are
-- two nodes more, at 3 and 9, and two pieces. With 7 left of 3 it is at 3, is listed as removed, and has no piece.
pub record PutsBack (level : ℕ) (group : Group) (old new : ArenaState) (before after : List Removed) (pieces : List Piece) : Type 0 where
  pub many : length group.ids ≡ length (group_nodes group)
  pub turns : Turns (map_of old.places) (map_of new.places) [] (cells_after group)
  pub pieces-are : pieces ≡ named_pieces group.ids (group_nodes group)
  pub removed : after ≡ before ++ group_removed level group

-- Whatever it was that the work made anew, it is put back.
-- So a work with the lease of 3 that lists 17 children gets two ids, whichever node and changes these came from.
abbrev pub PutsBackAny : ℕ → ℕ → LevelWork → ArenaState → ArenaState → List Removed → List Removed → List Piece → Type 0
PutsBackAny level low work old new before after pieces =
    (node : InnerNode) (changes : List Change) (path : List (NodeId × ℕ)) → MadeOf node changes work
    → (ids : List NodeId) × PutsBack level (record { touched = record { id = work.lease.id; path = path; low = low; changes = changes }; node = node; ids = ids }) old new before after pieces

-- How many nodes a work has made past the one that keeps its id. So of one with nodes of 9 and 8 it is 1, and of no work 0.
abbrev pub later_count : Option LevelWork → ℕ
later_count None = 0
later_count (Some work) = length work.later.items

-- The node of a work is lent, where there is one.
-- So in (Holds a, Lent) it is so of one with the lease of 1, and not of one with the lease of 0.
abbrev pub WorkIsLent : List Place → Option LevelWork → Type 0
WorkIsLent places None = Unit {0}
WorkIsLent places (Some work) = IsLent places work.lease.id

-- Whatever the map was in which the task's work is done, it is finished.
-- So one of 3 that made nodes of 9 and 8 lists two pieces for 3, whatever else that map had.
abbrev pub FinishesAny : ℕ → Task → ArenaState → ArenaState → Changes → Changes → Type 0
FinishesAny level task old new before after =
    (nodes : NodeId → Option Node) → TaskIsDone nodes (Some task) → Finishes nodes level (touched_by task.parent) old new before after

-- ---- all tasks

-- The id of the node that is planned. So of what is planned of the node 3 it is 3.
abbrev pub planned_id : Planned → NodeId
planned_id planned = planned.parent.node

-- No id stands there twice. So it is so of 3, 5, 9, and not of 3, 5, 3.
abbrev pub Distinct : List NodeId → Type 0
Distinct [] = Unit {0}
Distinct (id ∷ ids) = AllByRecursion (λ other. id ≢ other) ids × Distinct ids

-- All that was planned is lent: the tasks are those of the parents, the last first, and may run; their nodes left the map.
-- So where 3 and 5 were planned, both to be made anew, the tasks are those of 5 and 3, and the map has neither node.
pub record HasLent (old new : ArenaState) (planned : List Planned) (tasks : List (Option Task)) : Type 0 where
  pub keys : reverse (map task_key tasks) ≡ map planned_key planned
  pub ready : AllByRecursion (TaskIsReady (map_of old.places)) tasks
  pub turns : Turns (map_of old.places) (map_of new.places) (flat_map (lent_of (map_of old.places)) (map task_key tasks)) []

-- There is a task. So a task of the node 3 is one, and None isn't.
abbrev pub IsTask : Option Task → Type 0
IsTask None = ⊥
IsTask (Some task) = Unit {0}

-- How many nodes a task's work has made past the one that keeps its id.
-- So of one with nodes of 9 and 8 it is 1, and of one without a work 0.
abbrev pub later_of : Option Task → ℕ
later_of None = 0
later_of (Some task) = later_count task.work

-- All tasks are finished, the last first. So of the tasks of 5 and 3 the change of 3 is listed first, and then that of 5.
pub record FinishesAll (nodes : NodeId → Option Node) (level : ℕ) (old new : ArenaState) (tasks : List (Option Task)) (before after : Changes) : Type 0 where
  pub groups : List Group
  pub are : reverse (map (λ group. group.touched) groups) ≡ map task_key tasks
  pub are-groups : AllByRecursion (IsGroup nodes) groups
  pub turns : Turns (map_of old.places) (map_of new.places) [] (flat_map made_for groups)
  pub changed : after.nodes ≡ before.nodes ++ map change_for groups
  pub removed : after.removed ≡ before.removed ++ flat_map (removed_for level) groups
  pub loose : after.loose ≡ before.loose

-- Whatever the map was in which the tasks' works are done, they are finished.
-- So where those of 5 and 3 made two nodes each, two pieces are listed for 3 and then two for 5, whatever else that map had.
abbrev pub HasFinished : ℕ → ArenaState → ArenaState → List (Option Task) → Changes → Changes → Type 0
HasFinished level old new tasks before after =
    (nodes : NodeId → Option Node) → AllByRecursion (TaskIsDone nodes) tasks → FinishesAll nodes level old new tasks before after

-- The node of a task's work is lent, where there is one.
-- So in (Holds a, Lent) it is so of one whose work has the lease of 1, and of one without a work.
abbrev pub TaskIsLent : List Place → Option Task → Type 0
TaskIsLent places None = Unit {0}
TaskIsLent places (Some task) = WorkIsLent places task.work

-- The lease of a task's work comes home, where it has one.
-- So with that of 1 the places (Lent, Lent) may become (Lent, Holds a), and without a work they stay lent.
abbrev pub TaskComesHome : List Place → List Place → Option Task → Type 0
TaskComesHome old new task = (id : NodeId) → lent_at (place_at new id) + times_in id task ≡ lent_at (place_at old id)

-- ---- what stands for one node

-- The arena after a node was given back, and the pieces that stand for it. So for 3 with the low 20 it is (20, 3) alone where
-- it stays as it is, and where it is left with 17 children there are two, the first of the low 20.
pub record StandsFor (nodes : NodeId → Option Node) (level : ℕ) (touched : Touched) (old new : ArenaState) (before after : List Removed) (pieces : List Piece) : Type 0 where
  pub group : Group
  pub is : group.touched ≡ touched
  pub is-group : IsGroup nodes group
  pub turns : Turns (map_of old.places) (map_of new.places) [] (made_for group)
  pub pieces-are : record { node = touched.id; path = touched.path; pieces = pieces } ≡ change_for group
  pub removed : after ≡ before ++ removed_for level group

-- Whatever the map was in which the work is done, the pieces stand for the node.
-- So for 3 with the low 20 and without a work it is (20, 3), whatever else that map had.
abbrev pub StandsForAny : ℕ → ℕ → NodeId → Option LevelWork → ArenaState → ArenaState → List Removed → List Removed → List Piece → Type 0
StandsForAny level low id work old new before after pieces =
    (nodes : NodeId → Option Node) (path : List (NodeId × ℕ)) (changes : List Change) → CanWork nodes id changes → WorkIsDone nodes id changes work
    → StandsFor nodes level (record { id = id; path = path; low = low; changes = changes }) old new before after pieces

-- ---- the whole level

-- How many nodes a parent takes past the one that keeps its id.
-- So with 17 children left it is 1, with 34 it is 2, and with 16 or none it is 0.
abbrev pub spare_in : Option InnerNode → List Change → ℕ
spare_in None changes = 0
spare_in (Some node) changes = length (drop 1 (parts_left node changes))

-- The same of a touched node: none where it stays as it is.
-- So where one of the 16 children of 3 was cut in two it is 1, and where all stand for themselves 0.
abbrev pub spare_of : (NodeId → Option Node) → Touched → ℕ
spare_of nodes touched = let spare = spare_in (inner_in (nodes touched.id)) touched.changes in if is_still touched.changes then 0 else spare

-- All parents are worked on: what stood for them in the map gave way to what stands for them now, and they are listed.
-- So where 3 and 5 were touched, and a child of 3 alone was cut in two, which makes 17, the cell of 3 gives way to two, that of
-- 5 stays, and the changes of both are listed.
pub record HasWorked (nodes : NodeId → Option Node) (level : ℕ) (touched : List Touched) (new : NodeId → Option Node) (before after : Changes) : Type 0 where
  pub groups : List Group
  pub are : map (λ group. group.touched) groups ≡ touched
  pub are-groups : AllByRecursion (IsGroup nodes) groups
  pub turns : Turns nodes new (flat_map lent_for groups) (flat_map made_for groups)
  pub changed : after.nodes ≡ before.nodes ++ map change_for groups
  pub removed : after.removed ≡ before.removed ++ flat_map (removed_for level) groups
  pub loose : after.loose ≡ before.loose
