-- The work on the nodes of a level is ended, one task after another.
use Rattle.std.proofs.Common.{◌≡◌, ◌+◌, ◌≤◌, ℕ, true, false, cond, List, [], ◌∷◌, ◌++◌, map, refl, sym, ap, ◌∙◌, arith, subst, append_assoc, eq-eqb, Option, Some, None}
use Rattle.std.specs.Prelude.{reverse, sum_by}
use Rattle.std.specs.List.{flat_map, AllByRecursion}
use Rattle.std.proofs.lemmas.List.{append-nil, reverse-append}
use Rattle.std.proofs.lemmas.List.Concat.{flat_map-append}
use Rattle.std.proofs.lemmas.List.Sums.{sum_by-append, sum_by-cons}
use mathlib.Core.List.{map-append}
use Rattle.palm_node.specs.declared.id.NodeId.{NodeId}
use Rattle.palm_node.specs.declared.id.Piece.{Piece}
use Rattle.palm_node.specs.declared.node.Node.{Node}
use Rattle.palm_node.specs.declared.node.Node.TheVariants.{Inner}
use Rattle.palm_node.specs.declared.change.Change.{Change}
use Rattle.palm_node.specs.declared.change.Changes.{Changes}
use Rattle.palm_node.specs.declared.change.Removed.{Removed}
use Rattle.palm_arena.specs.declared.place.Place.{Place}
use Rattle.palm_arena.specs.declared.place.Place.TheVariants.{Empty, Lent, Holds}
use Rattle.palm_arena.specs.ArenaState.{ArenaState, place_at}
use Rattle.palm_arena.specs.Reads.{map_of}
use Rattle.palm_arena.specs.Cells.{Owns, Turns}
use Rattle.palm_level.specs.Groups.{Touched, Group, is_still, cells_after, group_change, group_removed}
use Rattle.palm_level.specs.Plans.{CanWork, touched_by}
use Rattle.palm_level.specs.Tasks.{lent_at, times_if, times_worked, times_in, LentTo, WorkIsDone, TaskIsDone, itself, change_for, removed_for, made_for, IsGroup, PutsBack, PutsBackAny, StandsFor, Finishes, HasFinished, TaskIsLent, TaskComesHome, later_of, WorkIsLent}
use Rattle.palm_level.specs.declared.node_work.LevelWork.{LevelWork}
use Rattle.palm_level.specs.declared.task.Task.{Task}
use Rattle.palm_level.proofs.Taking.{turns_more}

-- ---- one node

pub stand_still : (nodes : NodeId → Option Node) (level : ℕ) (touched : Touched) (a b : ArenaState) (before after : List Removed) (pieces : List Piece) → CanWork nodes touched.id touched.changes → is_still touched.changes ≡ true
    → b ≡ a → after ≡ before → pieces ≡ record { low = touched.low; id = touched.id } ∷ [] → StandsFor nodes level touched a b before after pieces
stand_still nodes level touched a b before after pieces can still same none one =
    let group : Group = record { touched = touched; node = can.node; ids = [] } in
    record {
      group = group;
      is = refl;
      is-group = record { held = can.held; ids = λ moves. let no : true ≡ false = sym still ∙ moves in absurd cc };
      turns = subst (Turns (map_of a.places) (map_of b.places) []) (sym (ap (λ s. cond s [] (cells_after group)) still)) (λ others owned. subst (λ (s : ArenaState). Owns (map_of s.places) others) (sym same) owned);
      pieces-are = ap (λ (ps : List Piece). let c : Change = record { node = touched.id; path = touched.path; pieces = ps } in c) one ∙ sym (ap (λ s. cond s (itself touched) (group_change group)) still);
      removed = none ∙ sym (append-nil before) ∙ ap (λ (rs : List Removed). before ++ rs) (sym (ap (λ s. cond s [] (group_removed level group)) still));
    }

pub stand_made : (nodes : NodeId → Option Node) (level low : ℕ) (id : NodeId) (path : List (NodeId × ℕ)) (changes : List Change) (work : LevelWork) (a b : ArenaState) (before after : List Removed) (pieces : List Piece)
    → CanWork nodes id changes → WorkIsDone nodes id changes (Some work) → PutsBackAny level low work a b before after pieces
    → StandsFor nodes level (record { id = id; path = path; low = low; changes = changes }) a b before after pieces
stand_made nodes level low id path changes work a b before after pieces can done puts =
    let made = done.2 can.node can.held in
    let back = puts can.node changes path (record { own = made.0; children = made.1; later = made.2 }) in
    at id back.0 (subst (λ k. PutsBack level (record { touched = record { id = k; path = path; low = low; changes = changes }; node = can.node; ids = back.0 }) a b before after pieces) done.1 back.1) can.held
  where
    at : (id : NodeId) (ids : List NodeId) → PutsBack level (record { touched = record { id = id; path = path; low = low; changes = changes }; node = can.node; ids = ids }) a b before after pieces
        → nodes id ≡ Some (Inner can.node) → StandsFor nodes level (record { id = id; path = path; low = low; changes = changes }) a b before after pieces
    at id ids back held =
        let group : Group = record { touched = record { id = id; path = path; low = low; changes = changes }; node = can.node; ids = ids } in
        record {
          group = group;
          is = refl;
          is-group = record { held = held; ids = λ moves. back.many };
          turns = subst (Turns (map_of a.places) (map_of b.places) []) (sym (ap (λ s. cond s [] (cells_after group)) done.0)) back.turns;
          pieces-are = ap (λ (ps : List Piece). let c : Change = record { node = id; path = path; pieces = ps } in c) back.pieces-are ∙ sym (ap (λ s. cond s (itself group.touched) (group_change group)) done.0);
          removed = back.removed ∙ ap (λ (rs : List Removed). before ++ rs) (sym (ap (λ s. cond s [] (group_removed level group)) done.0));
        }

-- ---- one task after another

-- How far the work is ended: the tasks that are left, and those that are finished.
pub record FinishedSoFar (level : ℕ) (old new : ArenaState) (all left : List (Option Task)) (before after : Changes) : Type 0 where
  pub done : List (Option Task)
  pub whole : all ≡ left ++ done
  pub finished : HasFinished level old new done before after

pub one_finished : (level : ℕ) (a b c : ArenaState) (all left popped : List (Option Task)) (task : Task) (first before after : Changes) → FinishedSoFar level a b all left first before → left ≡ popped ++ Some task ∷ []
    → ((nodes : NodeId → Option Node) → TaskIsDone nodes (Some task) → Finishes nodes level (touched_by task.parent) b c before after)
    → FinishedSoFar level a c all popped first after
one_finished level a b c all left popped task first before after far is finishes = record {
  done = Some task ∷ far.done;
  whole = far.whole ∙ ap (λ l. l ++ far.done) is ∙ append_assoc popped (Some task ∷ []) far.done;
  finished = λ nodes done.
      let rest = far.finished nodes done.1 in
      let one = finishes nodes done.0 in
      let more = map-append {B = Touched} (λ group. group.touched) rest.groups (one.group ∷ []) in
      record {
        groups = rest.groups ++ one.group ∷ [];
        are = ap reverse more ∙ reverse-append (map (λ group. group.touched) rest.groups) (one.group.touched ∷ []) ∙ ap (λ t. t ∷ reverse (map (λ (g : Group). g.touched) rest.groups)) one.is ∙ ap (λ l. touched_by task.parent ∷ l) rest.are;
        are-groups = both rest.groups rest.are-groups one.is-group;
        turns = subst (Turns (map_of a.places) (map_of c.places) []) (sym (flat_map-append made_for rest.groups (one.group ∷ []) ∙ ap (λ l. flat_map made_for rest.groups ++ l) (append-nil (made_for one.group))))
            (turns_more (map_of a.places) (map_of b.places) (map_of c.places) (flat_map made_for rest.groups) (made_for one.group) rest.turns one.turns);
        changed = one.changed ∙ ap (λ l. l ++ change_for one.group ∷ []) rest.changed ∙ append_assoc first.nodes (map change_for rest.groups) (change_for one.group ∷ []) ∙ ap (λ l. first.nodes ++ l) (sym (map-append change_for rest.groups (one.group ∷ [])));
        removed =
            one.removed ∙ ap (λ l. l ++ removed_for level one.group) rest.removed ∙ append_assoc first.removed (flat_map (removed_for level) rest.groups) (removed_for level one.group)
            ∙ ap (λ l. first.removed ++ l) (sym (flat_map-append (removed_for level) rest.groups (one.group ∷ []) ∙ ap (λ l. flat_map (removed_for level) rest.groups ++ l) (append-nil (removed_for level one.group))));
        loose = one.loose ∙ rest.loose;
      };
}
  where
    both : {nodes : NodeId → Option Node} (gs : List Group) {g : Group} → AllByRecursion (IsGroup nodes) gs → IsGroup nodes g → AllByRecursion (IsGroup nodes) (gs ++ g ∷ [])
    both [] all one = (one, tt)
    both (x ∷ xs) all one = (all.0, both xs all.1 one)

-- ---- the leases

-- The last task has its lease, and when it comes home the others have theirs.
pub lent_popped : (old new : List Place) (tasks popped : List (Option Task)) (task : Option Task) → tasks ≡ popped ++ task ∷ [] → LentTo old tasks → TaskComesHome old new task → LentTo new popped
lent_popped old new tasks popped task is lent home id =
    let sum = ap (sum_by (times_in id)) is ∙ sum_by-append (times_in id) popped (task ∷ []) in
    let own = lent id in
    let back = home id in
    let last = sum_by-cons (times_in id) task [] in
    omega (arith, sum, own, back, last)

pub task_lent : (places : List Place) (tasks popped : List (Option Task)) (task : Option Task) → tasks ≡ popped ++ task ∷ [] → LentTo places tasks → TaskIsLent places task
task_lent places tasks popped None is lent = tt
task_lent places tasks popped (Some task) is lent = by task.work refl
  where
    by : (work : Option LevelWork) → task.work ≡ work → WorkIsLent places work
    by None e = tt
    by (Some work) e =
        let id = work.lease.id in
        let sum = ap (sum_by (times_in id)) is ∙ sum_by-append (times_in id) popped (Some task ∷ []) in
        let last = sum_by-cons (times_in id) (Some task) [] in
        let own : times_in id (Some task) ≡ 1 = ap (times_worked id) e ∙ ap times_if (eq-eqb id.place id.place refl) in
        let at = lent id in
        is_lent (place_at places id) (omega (arith, sum, last, own, at))
      where
        is_lent : (place : Place) → 1 ≤ lent_at place → place ≡ Lent
        is_lent Empty some = absurd (omega (arith, some))
        is_lent Lent some = refl
        is_lent (Holds node) some = absurd (omega (arith, some))

-- ---- how many are taken

pub later_popped : (tasks popped : List (Option Task)) (task : Option Task) → tasks ≡ popped ++ task ∷ [] → sum_by later_of tasks ≡ sum_by later_of popped + later_of task
later_popped tasks popped task is =
    let sum = ap (sum_by later_of) is ∙ sum_by-append later_of popped (task ∷ []) in
    let last = sum_by-cons later_of task [] in
    omega (arith, sum, last)
