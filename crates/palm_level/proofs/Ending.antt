-- The tasks that ran, and what all of them come to.
use Rattle.std.proofs.Common.{◌≡◌, ℕ, cond, List, [], ◌∷◌, ◌++◌, length, map, drop, refl, sym, ap, ◌∙◌, arith, subst, Option, Some, None}
use Rattle.std.specs.Prelude.{reverse, sum_by}
use Rattle.std.specs.List.{flat_map, AllByRecursion, AllZip}
use Rattle.std.proofs.lemmas.List.{append-nil, reverse-append, reverse-reverse}
use Rattle.std.proofs.lemmas.List.Concat.{flat_map-append}
use Rattle.std.proofs.lemmas.List.Sums.{sum_by-cons}
use Rattle.std.proofs.lemmas.List.Sorted.{IsPermutation-reverse, sum_by-IsPermutation}
use Rattle.palm_node.specs.declared.id.NodeId.{NodeId}
use Rattle.palm_node.specs.declared.node.Node.{Node}
use Rattle.palm_node.specs.declared.node.Node.TheVariants.{Inner}
use Rattle.palm_node.specs.declared.change.Change.{Change}
use Rattle.palm_node.specs.declared.change.Changes.{Changes}
use Rattle.palm_share.specs.Jobs.{Relates}
use Rattle.palm_arena.specs.declared.place.Place.{Place}
use Rattle.palm_arena.specs.ArenaState.{ArenaState}
use Rattle.palm_arena.specs.Reads.{map_of, inner_in, same_place}
use Rattle.palm_arena.specs.Cells.{Cell, found_at, SameCells}
use Rattle.palm_arena.proofs.CellLists.{same_append, same_swap, same_trans, same_eq}
use Rattle.palm_arena.proofs.Turning.{turns_then, turns_same}
use Rattle.palm_arena.proofs.Natural.{length-map'}
use Rattle.palm_level.specs.Works.{first_node, parts_left, later_over}
use Rattle.palm_level.specs.Splices.{children_left}
use Rattle.palm_level.specs.Groups.{Touched, Group, is_still}
use Rattle.palm_level.specs.Plans.{CanWork, touched_by, planned_key}
use Rattle.palm_level.specs.Tasks.{times_if, times_worked, times_in, LentTo, WorkRan, TaskRan, WorkIsReady, TaskIsReady, WorkIsDone, TaskIsDone, task_key, lent_of, cell_in, lent_for, made_for, IsGroup, IsTask, later_of, later_count, HasLent, HasFinished, HasWorked, spare_in, spare_of}
use Rattle.palm_level.specs.declared.node_work.LevelWork.{LevelWork}
use Rattle.palm_level.specs.declared.plan.Planned.{Planned}
use Rattle.palm_level.specs.declared.task.Task.{Task}

-- What ran is done.
pub record RanTo (nodes : NodeId → Option Node) (before after : List (Option Task)) : Type 0 where
  pub done : AllByRecursion (TaskIsDone nodes) after
  pub keys : map task_key after ≡ map task_key before
  pub times : (id : NodeId) → sum_by (times_in id) after ≡ sum_by (times_in id) before
  pub tasks : AllByRecursion IsTask after

work_done : (nodes : NodeId → Option Node) (id : NodeId) (changes : List Change) (before after : Option LevelWork) → WorkRan before after → WorkIsReady nodes id changes before → WorkIsDone nodes id changes after
work_done nodes id changes None None ran ready = ready
work_done nodes id changes None (Some v) ran ready = absurd ran
work_done nodes id changes (Some w) None ran ready = absurd ran
work_done nodes id changes (Some w) (Some v) ran (moves, id_is, held, same, ready) = (
  moves,
  ran.id ∙ id_is,
  λ node at.
      let own : w.lease.node ≡ Inner node = (let e : Some w.lease.node ≡ Some (Inner node) = sym held ∙ at in cc) in
      subst (λ cs. (v.lease.node ≡ Inner (first_node node (parts_left node cs))) × (v.children.items ≡ children_left node cs) × (v.later.items ≡ map later_over (drop 1 (parts_left node cs)))) same (ran.made node own),
)

work_times : (id : NodeId) (before after : Option LevelWork) → WorkRan before after → times_worked id after ≡ times_worked id before
work_times id None None ran = refl
work_times id None (Some v) ran = absurd ran
work_times id (Some w) None ran = absurd ran
work_times id (Some w) (Some v) ran = ap (λ k. times_if (same_place k id)) ran.id

pub ran_to : (nodes : NodeId → Option Node) (before after : List (Option Task)) → AllZip (Relates (λ (b a : Task). TaskRan b a)) before after → AllByRecursion (TaskIsReady nodes) before → RanTo nodes before after
ran_to nodes [] [] zip ready = record { done = tt; keys = refl; times = λ id. refl; tasks = tt }
ran_to nodes [] (y ∷ ys) zip ready = absurd zip
ran_to nodes (x ∷ xs) [] zip ready = absurd zip
ran_to nodes (None ∷ xs) (y ∷ ys) zip ready = absurd zip.0
ran_to nodes (Some t ∷ xs) (None ∷ ys) zip ready = absurd zip.0
ran_to nodes (Some t ∷ xs) (Some u ∷ ys) zip ready =
    let rest = ran_to nodes xs ys zip.1 ready.1 in
    let ran : TaskRan t u = zip.0 in
    let both : CanWork nodes t.parent.node t.parent.changes.now × WorkIsDone nodes t.parent.node t.parent.changes.now u.work =
    (ready.0.0, work_done nodes t.parent.node t.parent.changes.now t.work u.work ran.work ready.0.1) in
    record {
      done = (subst (λ (k : Touched). CanWork nodes k.id k.changes × WorkIsDone nodes k.id k.changes u.work) (sym ran.parent) both, rest.done);
      keys = ap (λ (k : Touched). k ∷ map task_key ys) ran.parent ∙ ap (λ ks. touched_by t.parent ∷ ks) rest.keys;
      times = λ id.
          let a = sum_by-cons (times_in id) (Some u) ys in let b = sum_by-cons (times_in id) (Some t) xs in let c = rest.times id in let d = work_times id t.work u.work ran.work in
          omega (arith, a, b, c, d);
      tasks = (tt, rest.tasks);
    }

pub lent_still : (nodes : NodeId → Option Node) (places : List Place) (before after : List (Option Task)) → RanTo nodes before after → LentTo places before → LentTo places after
lent_still nodes places before after ran lent id = ran.times id ∙ lent id

-- ---- all of them

same_reversed : {X : Type 0} (f : X → List Cell) (xs : List X) → SameCells (flat_map f (reverse xs)) (flat_map f xs)
same_reversed f [] = λ i. refl
same_reversed f (x ∷ xs) =
    same_trans (flat_map f (reverse (x ∷ xs))) (flat_map f (reverse xs) ++ f x) (f x ++ flat_map f xs)
    (same_eq _ _ (ap (flat_map f) (reverse-append (x ∷ []) xs) ∙ flat_map-append f (reverse xs) (x ∷ []) ∙ ap (λ l. flat_map f (reverse xs) ++ l) (append-nil (f x))))
    (same_trans (flat_map f (reverse xs) ++ f x) (f x ++ flat_map f (reverse xs)) (f x ++ flat_map f xs) (same_swap (flat_map f (reverse xs)) (f x))
    (same_append (f x) (f x) (flat_map f (reverse xs)) (flat_map f xs) (λ i. refl) (same_reversed f xs)))

lent_groups : (nodes : NodeId → Option Node) (gs : List Group) → AllByRecursion (IsGroup nodes) gs → flat_map (lent_of nodes) (map (λ (g : Group). g.touched) gs) ≡ flat_map lent_for gs
lent_groups nodes [] all = refl
lent_groups nodes (g ∷ gs) all =
    ap (λ (o : Option Node). cond (is_still g.touched.changes) [] (cell_in g.touched.id o) ++ flat_map (lent_of nodes) (map (λ (g : Group). g.touched) gs)) all.0.held
    ∙ ap (λ cs. lent_for g ++ cs) (lent_groups nodes gs all.1)

pub all_worked : (level : ℕ) (a b c : ArenaState) (planned : List Planned) (ready ran : List (Option Task)) (before after : Changes) → HasLent a b planned ready → RanTo (map_of a.places) ready ran → HasFinished level b c ran before after
    → HasWorked (map_of a.places) level (map planned_key planned) (map_of c.places) before after
all_worked level a b c planned ready ran before after lent to finished =
    let nodes = map_of a.places in
    let all = finished nodes to.done in
    let touched = map (λ (g : Group). g.touched) all.groups in
    let keys : reverse touched ≡ map task_key ready = all.are ∙ to.keys in
    let are : touched ≡ map planned_key planned = sym (reverse-reverse touched) ∙ ap reverse keys ∙ lent.keys in
    record {
      groups = all.groups;
      are = are;
      are-groups = all.are-groups;
      turns =
          turns_same nodes (map_of c.places) (flat_map (lent_of nodes) (map task_key ready)) (flat_map lent_for all.groups) (flat_map made_for all.groups) (flat_map made_for all.groups)
          (λ i. sym (ap (λ l. found_at i (flat_map (lent_of nodes) l)) (sym keys) ∙ same_reversed (lent_of nodes) touched i ∙ ap (found_at i) (lent_groups nodes all.groups all.are-groups)))
          (λ i. refl)
          (turns_then nodes (map_of b.places) (map_of c.places) (flat_map (lent_of nodes) (map task_key ready)) [] (flat_map made_for all.groups) lent.turns all.turns);
      changed = all.changed;
      removed = all.removed;
      loose = all.loose;
    }

-- ---- how many are taken

later_spare : (nodes : NodeId → Option Node) (tasks : List (Option Task)) → AllByRecursion (TaskIsDone nodes) tasks → sum_by later_of tasks ≡ sum_by (spare_of nodes) (map task_key tasks)
later_spare nodes [] all = refl
later_spare nodes (None ∷ ts) all = absurd all.0
later_spare nodes (Some t ∷ ts) all =
    let a = sum_by-cons later_of (Some t) ts in
    let b = sum_by-cons (spare_of nodes) (touched_by t.parent) (map task_key ts) in
    let rest = later_spare nodes ts all.1 in
    let one = by t.work all.0.1 in
    omega (arith, a, b, rest, one)
  where
    can : CanWork nodes t.parent.node t.parent.changes.now
    can = all.0.0

    by : (work : Option LevelWork) → WorkIsDone nodes t.parent.node t.parent.changes.now work → later_count work ≡ spare_of nodes (touched_by t.parent)
    by None still = sym (ap (λ s. cond s 0 (spare_in (inner_in (nodes t.parent.node)) t.parent.changes.now)) still)
    by (Some w) done =
        ap length (done.2 can.node can.held).2 ∙ length-map' later_over (drop 1 (parts_left can.node t.parent.changes.now))
        ∙ sym (ap (λ (o : Option Node). spare_in (inner_in o) t.parent.changes.now) can.held)
        ∙ sym (ap (λ s. cond s 0 (spare_in (inner_in (nodes t.parent.node)) t.parent.changes.now)) done.0)

pub taken : (a b : ArenaState) (planned : List Planned) (ready ran : List (Option Task)) → HasLent a b planned ready → RanTo (map_of a.places) ready ran → sum_by later_of ran ≡ sum_by (spare_of (map_of a.places)) (map planned_key planned)
taken a b planned ready ran lent to =
    later_spare (map_of a.places) ran to.done ∙ ap (sum_by (spare_of (map_of a.places))) to.keys
    ∙ sym (sum_by-IsPermutation (spare_of (map_of a.places)) (map task_key ready) (reverse (map task_key ready)) (IsPermutation-reverse (map task_key ready))) ∙ ap (sum_by (spare_of (map_of a.places))) lent.keys
