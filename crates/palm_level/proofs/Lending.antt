-- The nodes of a level are lent, one after another.
use Rattle.std.proofs.Common.{◌≡◌, ◌≢◌, ◌+◌, cond, List, [], ◌∷◌, ◌++◌, map, refl, sym, ap, ◌∙◌, arith, subst, append_assoc, Option, Some, None}
use Rattle.std.specs.Prelude.{reverse, sum_by, IsSome}
use Rattle.std.specs.List.{flat_map, AllByRecursion}
use Rattle.std.proofs.lemmas.List.{append-nil, reverse-append}
use Rattle.std.proofs.lemmas.List.Concat.{flat_map-append}
use Rattle.std.proofs.lemmas.List.Sums.{sum_by-append, sum_by-cons}
use mathlib.Core.List.{map-append}
use mathlib.Core.Logic.{dite}
use native.Mathlib.Decide.{ℕ_discrete}
use Rattle.palm_base.proofs.Pieces.{every_split}
use Rattle.palm_node.specs.declared.id.NodeId.{NodeId}
use Rattle.palm_node.specs.declared.node.Node.{Node}
use Rattle.palm_node.specs.declared.node.Node.TheVariants.{Inner}
use Rattle.palm_arena.specs.declared.place.Place.{Place}
use Rattle.palm_arena.specs.declared.place.Place.TheVariants.{Empty, Lent, Holds}
use Rattle.palm_arena.specs.ArenaState.{ArenaState, place_at, node_in, with_place, NoneLent}
use Rattle.palm_arena.specs.Reads.{map_of, same_place}
use Rattle.palm_arena.specs.Cells.{Turns}
use Rattle.palm_arena.proofs.Keeping.{same_id}
use Rattle.palm_arena.proofs.Standing.{put_stands, others_stay}
use Rattle.palm_arena.proofs.Turning.{lend_turns}
use Rattle.palm_level.specs.Groups.{Touched}
use Rattle.palm_level.specs.Works.{IsReady, CanSplice}
use Rattle.palm_level.specs.Plans.{CanWork, IsRoomAt, IsPlanned, planned_key}
use Rattle.palm_level.specs.Tasks.{lent_at, times_if, times_worked, times_in, LentTo, TaskIsReady, WorkIsReady, task_key, lent_of, cell_in, Starts, WorkStarts, IsThere, planned_id, Distinct}
use Rattle.palm_level.specs.declared.node_work.LevelWork.{LevelWork}
use Rattle.palm_level.specs.declared.plan.Planned.{Planned}
use Rattle.palm_level.specs.declared.plan.Room.{Room}
use Rattle.palm_level.specs.declared.task.Task.{Task}
use Rattle.palm_level.proofs.Taking.{held_unlent, times_other, times_own, turns_fewer}

-- What is planned still stands as it did.
abbrev pub StandsYet : List Place → List Place → Planned → Type 0
StandsYet old new planned = place_at new planned.parent.node ≡ place_at old planned.parent.node

-- How far the nodes are lent.
pub record LentSoFar (old new : ArenaState) (all left : List Planned) (tasks : List (Option Task)) : Type 0 where
  pub keys : map planned_key left ++ reverse (map task_key tasks) ≡ map planned_key all
  pub ready : AllByRecursion (TaskIsReady (map_of old.places)) tasks
  pub turns : Turns (map_of old.places) (map_of new.places) (flat_map (lent_of (map_of old.places)) (map task_key tasks)) []
  pub planned : AllByRecursion (IsPlanned (map_of old.places)) left
  pub distinct : Distinct (map planned_id left)
  pub yet : AllByRecursion (StandsYet old.places new.places) left
  pub lent : LentTo new.places tasks

pub lent_none_yet : (a : ArenaState) (all : List Planned) (tasks : List (Option Task)) → tasks ≡ [] → NoneLent a.places → AllByRecursion (IsPlanned (map_of a.places)) all → Distinct (map planned_id all) → LentSoFar a a all all tasks
lent_none_yet a all tasks none home planned distinct = subst (LentSoFar a a all all) (sym none) (record {
  keys = append-nil (map planned_key all);
  ready = tt;
  turns = λ others owned. owned;
  planned = planned;
  distinct = distinct;
  yet = as_it_was all;
  lent = λ id. sym (unlent (place_at a.places id) (home id));
})
  where
    as_it_was : (ps : List Planned) → AllByRecursion (StandsYet a.places a.places) ps
    as_it_was [] = tt
    as_it_was (p ∷ ps) = (refl, as_it_was ps)

    unlent : (place : Place) → (place ≡ Lent → ⊥) → lent_at place ≡ 0
    unlent Empty not = refl
    unlent Lent not = absurd (not refl)
    unlent (Holds node) not = refl

-- The last id is none of the others.
last_apart : (ids : List NodeId) (id : NodeId) → Distinct (ids ++ id ∷ []) → Distinct ids × AllByRecursion (λ other. other ≢ id) ids
last_apart [] id distinct = (tt, tt)
last_apart (x ∷ xs) id distinct =
    let rest = last_apart xs id distinct.1 in
    let parts = every_split (λ other. x ≢ other) xs (id ∷ []) distinct.0 in
    ((parts.0, rest.0), (parts.1.0, rest.1))

still_yet : (old new : List Place) (id : NodeId) (ps : List Planned) → AllByRecursion (λ other. other ≢ id) (map planned_id ps) → AllByRecursion (StandsYet old new) ps → AllByRecursion (StandsYet old (with_place new id Lent)) ps
still_yet old new id [] apart yet = tt
still_yet old new id (p ∷ ps) apart yet = (others_stay new id p.parent.node Lent apart.0 ∙ yet.0, still_yet old new id ps apart.1 yet.1)

-- The last that is planned.
pub record Last (old new : ArenaState) (all left : List Planned) (tasks : List (Option Task)) (next : Planned) : Type 0 where
  pub planned : IsPlanned (map_of old.places) next
  pub others : AllByRecursion (IsPlanned (map_of old.places)) left
  pub yet : StandsYet old.places new.places next
  pub later-yet : AllByRecursion (StandsYet old.places new.places) left
  pub distinct : Distinct (map planned_id left)
  pub apart : AllByRecursion (λ other. other ≢ next.parent.node) (map planned_id left)

pub last_of : (old new : ArenaState) (all left popped : List Planned) (tasks : List (Option Task)) (next : Planned) → left ≡ popped ++ next ∷ [] → LentSoFar old new all left tasks → Last old new all popped tasks next
last_of old new all left popped tasks next is far =
    let planned = every_split (IsPlanned (map_of old.places)) popped (next ∷ []) (subst (AllByRecursion (IsPlanned (map_of old.places))) is far.planned) in
    let yet = every_split (StandsYet old.places new.places) popped (next ∷ []) (subst (AllByRecursion (StandsYet old.places new.places)) is far.yet) in
    let apart = last_apart (map planned_id popped) next.parent.node (subst Distinct (ap (map planned_id) is ∙ map-append planned_id popped (next ∷ [])) far.distinct) in
    record { planned = planned.1.0; others = planned.0; yet = yet.1.0; later-yet = yet.0; distinct = apart.0; apart = apart.1 }

-- So it can be lent.
pub there : (old new : ArenaState) (all left : List Planned) (tasks : List (Option Task)) (next : Planned) → Last old new all left tasks next → IsThere new.places next next.room
there old new all left tasks next last = by next.room
  where
    by : (room : Option Room) → IsThere new.places next room
    by None = tt
    by (Some room) = subst IsSome (sym (ap node_in last.yet ∙ last.planned.can.held)) refl

-- One task more.
pub one_lent : (old b c : ArenaState) (all left popped : List Planned) (tasks : List (Option Task)) (next : Planned) (task : Task) → left ≡ popped ++ next ∷ [] → LentSoFar old b all left tasks → Starts next b c task
    → LentSoFar old c all popped (tasks ++ Some task ∷ [])
one_lent old b c all left popped tasks next task is far starts =
    let last = last_of old b all left popped tasks next is far in
    by next.room task.work refl refl last last.planned.room starts.work
  where
    nodes : NodeId → Option Node
    nodes = map_of old.places

    keys : map planned_key popped ++ reverse (map task_key (tasks ++ Some task ∷ [])) ≡ map planned_key all
    keys =
        ap (λ ks. map planned_key popped ++ reverse ks) (map-append task_key tasks (Some task ∷ []))
        ∙ ap (λ ks. map planned_key popped ++ ks) (reverse-append (map task_key tasks) (task_key (Some task) ∷ []))
        ∙ ap (λ k. map planned_key popped ++ (k ∷ reverse (map task_key tasks))) starts.key
        ∙ sym (append_assoc (map planned_key popped) (planned_key next ∷ []) (reverse (map task_key tasks)))
        ∙ ap (λ ks. ks ++ reverse (map task_key tasks)) (sym (ap (map planned_key) is ∙ map-append planned_key popped (next ∷ [])))
        ∙ far.keys

    cells : flat_map (lent_of nodes) (map task_key (tasks ++ Some task ∷ [])) ≡ flat_map (lent_of nodes) (map task_key tasks) ++ lent_of nodes (planned_key next)
    cells =
        ap (flat_map (lent_of nodes)) (map-append task_key tasks (Some task ∷ []))
        ∙ flat_map-append (lent_of nodes) (map task_key tasks) (task_key (Some task) ∷ [])
        ∙ ap (λ l. flat_map (lent_of nodes) (map task_key tasks) ++ l) (append-nil (lent_of nodes (task_key (Some task))) ∙ ap (lent_of nodes) starts.key)

    all_ready : (ts : List (Option Task)) → AllByRecursion (TaskIsReady nodes) ts → TaskIsReady nodes (Some task) → AllByRecursion (TaskIsReady nodes) (ts ++ Some task ∷ [])
    all_ready [] all one = (one, tt)
    all_ready (t ∷ ts) all one = (all.0, all_ready ts all.1 one)

    times : (id : NodeId) → sum_by (times_in id) (tasks ++ Some task ∷ []) ≡ sum_by (times_in id) tasks + times_worked id task.work
    times id = let sum = sum_by-append (times_in id) tasks (Some task ∷ []) in let one = sum_by-cons (times_in id) (Some task) [] in omega (arith, sum, one)

    ready_by : Last old b all popped tasks next → WorkIsReady nodes next.parent.node next.parent.changes.now task.work → TaskIsReady nodes (Some task)
    ready_by last work =
        let node = ap (λ (t : Touched). t.id) starts.key in
        let changes = ap (λ (t : Touched). t.changes) starts.key in
        let own : CanWork nodes next.parent.node next.parent.changes.now = last.planned.can in
        let both : CanWork nodes next.parent.node next.parent.changes.now × WorkIsReady nodes next.parent.node next.parent.changes.now task.work = (own, work) in
        subst (λ (t : Touched). CanWork nodes t.id t.changes × WorkIsReady nodes t.id t.changes task.work) (sym starts.key) both

    by : (room : Option Room) (work : Option LevelWork) → next.room ≡ room → task.work ≡ work → Last old b all popped tasks next → IsRoomAt nodes next.parent.node next.parent.changes.now next.room → WorkStarts next b c next.room task.work
        → LentSoFar old c all popped (tasks ++ Some task ∷ [])
    by None None no_room no_work last at_room work =
        let still = subst (IsRoomAt nodes next.parent.node next.parent.changes.now) no_room at_room in
        let same : c ≡ b = subst (λ w. WorkStarts next b c None w) no_work (subst (λ r. WorkStarts next b c r task.work) no_room work) in
        let none : lent_of nodes (planned_key next) ≡ [] = ap (λ s. cond s [] (cell_in next.parent.node (nodes next.parent.node))) still in
        record {
          keys = keys;
          ready = all_ready tasks far.ready (ready_by last (subst (WorkIsReady nodes next.parent.node next.parent.changes.now) (sym no_work) still));
          turns = subst (λ cs. Turns (map_of old.places) (map_of c.places) cs []) (sym (cells ∙ ap (λ l. flat_map (lent_of nodes) (map task_key tasks) ++ l) none ∙ append-nil (flat_map (lent_of nodes) (map task_key tasks))))
              (subst (λ (s : ArenaState). Turns (map_of old.places) (map_of s.places) (flat_map (lent_of nodes) (map task_key tasks)) []) (sym same) far.turns);
          planned = last.others;
          distinct = last.distinct;
          yet = subst (λ (s : ArenaState). AllByRecursion (StandsYet old.places s.places) popped) (sym same) last.later-yet;
          lent = λ id. let sum = times id in let own = far.lent id in let zero = ap (times_worked id) no_work in let at = ap (λ (s : ArenaState). lent_at (place_at s.places id)) same in omega (arith, sum, own, zero, at);
        }
    by None (Some w) no_room no_work last at_room work = absurd (subst (λ w. WorkStarts next b c None w) no_work (subst (λ r. WorkStarts next b c r task.work) no_room work))
    by (Some room) None no_room no_work last at_room work = absurd (subst (λ w. WorkStarts next b c (Some room) w) no_work (subst (λ r. WorkStarts next b c r task.work) no_room work))
    by (Some room) (Some w) no_room no_work last at_room work =
        let (moves, fits) = subst (IsRoomAt nodes next.parent.node next.parent.changes.now) no_room at_room in
        let (id_is, held, changes, children, later, is_c) = subst (λ w. WorkStarts next b c (Some room) w) no_work (subst (λ r. WorkStarts next b c r task.work) no_room work) in
        let id = next.parent.node in
        let can = last.planned.can in
        let held_old : nodes id ≡ Some w.lease.node = sym (ap node_in last.yet) ∙ held in
        let node_is : w.lease.node ≡ Inner can.node = (let e : Some w.lease.node ≡ Some (Inner can.node) = sym held_old ∙ can.held in cc) in
        let has = fits can.node can.held in
        let ready : IsReady w = record {
          node = can.node;
          is-inner = node_is;
          can-splice = subst (λ cs. CanSplice can.node cs) (sym changes) can.can-splice;
          no-children = ap (λ v. v.items) children ∙ has.no-children;
          no-later = ap (λ v. v.items) later ∙ has.no-later;
          children-room = rw (changes, children) has.children-room;
          later-room = rw (changes, later) has.later-room;
        } in
        let own : lent_of nodes (planned_key next) ≡ (id, w.lease.node) ∷ [] = ap (λ s. cond s [] (cell_in id (nodes id))) moves ∙ ap (cell_in id) held_old in
        record {
          keys = keys;
          ready = all_ready tasks far.ready (ready_by last (subst (WorkIsReady nodes next.parent.node next.parent.changes.now) (sym no_work) (moves, id_is, held_old, changes, ready)));
          turns = subst (λ cs. Turns (map_of old.places) (map_of c.places) cs []) (sym (cells ∙ ap (λ l. flat_map (lent_of nodes) (map task_key tasks) ++ l) own))
              (turns_fewer (map_of old.places) (map_of b.places) (map_of c.places) (flat_map (lent_of nodes) (map task_key tasks)) ((id, w.lease.node) ∷ []) far.turns
              (subst (λ (s : ArenaState). Turns (map_of b.places) (map_of s.places) ((id, w.lease.node) ∷ []) []) (sym is_c) (lend_turns b.places id w.lease.node)));
          planned = last.others;
          distinct = last.distinct;
          yet = subst (λ (s : ArenaState). AllByRecursion (StandsYet old.places s.places) popped) (sym is_c) (still_yet old.places b.places id popped last.apart last.later-yet);
          lent = λ other.
              let sum = times other in
              let before = far.lent other in
              let worked : times_worked other task.work ≡ times_if (same_place id other) = ap (times_worked other) no_work ∙ ap (λ k. times_if (same_place k other)) id_is in
              let at : lent_at (place_at c.places other) ≡ lent_at (place_at (with_place b.places id Lent) other) = ap (λ (s : ArenaState). lent_at (place_at s.places other)) is_c in
              dite (ℕ_discrete other.place id.place)
              (λ e.
              let same : other ≡ id = same_id other id e in
              let new : lent_at (place_at (with_place b.places id Lent) other) ≡ 1 = ap (λ k. lent_at (place_at (with_place b.places id Lent) k)) same ∙ ap lent_at (put_stands b.places id Lent) in
              let was : lent_at (place_at b.places other) ≡ 0 = ap (λ k. lent_at (place_at b.places k)) same ∙ held_unlent b.places id w.lease.node held in
              let one : times_if (same_place id other) ≡ 1 = ap (λ k. times_if (same_place id k)) same ∙ times_own id in
              omega (arith, sum, before, worked, at, new, was, one))
              (λ differ.
              let apart : other ≢ id = λ e. differ (ap (λ (k : NodeId). k.place) e) in
              let stays : lent_at (place_at (with_place b.places id Lent) other) ≡ lent_at (place_at b.places other) = ap lent_at (others_stay b.places id other Lent apart) in
              let none : times_if (same_place id other) ≡ 0 = times_other id other apart in
              omega (arith, sum, before, worked, at, stays, none));
        }

-- A start leaves what the batch began with.
pub starts_begun : (next : Planned) (b c : ArenaState) (task : Task) → Starts next b c task → c.begun ≡ b.begun
starts_begun next b c task starts = by next.room task.work starts.work
  where
    by : (room : Option Room) (work : Option LevelWork) → WorkStarts next b c room work → c.begun ≡ b.begun
    by None None same = ap (λ (s : ArenaState). s.begun) same
    by None (Some w) never = absurd never
    by (Some room) None never = absurd never
    by (Some room) (Some w) (id_is, held, changes, children, later, is_c) = ap (λ (s : ArenaState). s.begun) is_c
