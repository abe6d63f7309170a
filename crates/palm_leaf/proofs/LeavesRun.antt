-- Lent leaves are run, given back and settled, one beside another.
use Rattle.std.proofs.Common.{Bor, ◌≡◌, ℕ, zero, suc, ◌+◌, ◌-◌, ◌≤◌, true, false, List, [], ◌∷◌, ◌++◌, length, map, None, Some, refl, sym, ap, ◌∙◌, subst, arith, Bool}
use Rattle.std.specs.Prelude.{Option, sum_by}
use Rattle.std.specs.List.{flat_map, AllByRecursion, AllZip}
use Rattle.std.proofs.lemmas.List.Sums.{sum_by-append}
use Rattle.palm_base.specs.declared.row.Row.{Row}
use Rattle.palm_node.specs.declared.id.NodeId.{NodeId}
use Rattle.palm_node.specs.declared.node.Node.{Node}
use Rattle.palm_node.specs.declared.node.Node.TheVariants.{Leaf}
use Rattle.palm_node.specs.declared.change.Change.{Change}
use Rattle.palm_arena.specs.Cells.{Cell, Owns, Turns}
use Rattle.palm_arena.proofs.OwnedTrees.{first_holds}
use Rattle.palm_arena.proofs.Natural.{length-map'}
use Rattle.palm_arena.proofs.Turning.{turns_then}
use Rattle.palm_route.specs.declared.part.Group.{Group}
use Rattle.palm_share.specs.Jobs.{Holds, Relates}
use Rattle.palm_leaf.specs.Answers.{answers_in, rows_at, rows_in_node}
use Rattle.palm_leaf.specs.Ends.{LeafEnd, LeavesEnd, end_of, group_cells, leaf_cell, changes_at, change_at, cells_at, pieces_at, Fit}
use Rattle.palm_leaf.specs.Lending.{present, lease_ids, lease_cell, IsLoaded, IsEnded, Matched}
use Rattle.palm_leaf.specs.Routed.{parts_in, written_low}
use Rattle.palm_leaf.specs.Stage.{LeavesDone}
use Rattle.palm_leaf.specs.Settling.{done_of, end_of_done, done_cells, answers_of_done}
use Rattle.palm_route.specs.Edits.{edits_of}
use Rattle.palm_base.specs.Table.{after_all}
use Rattle.palm_base.specs.Pass.{Outcome}
use Rattle.palm_leaf.specs.declared.settling.Gathered.{Gathered}
use Rattle.palm_leaf.specs.Asked.{part_of}
use Rattle.palm_leaf.specs.Worked.{IsPlan, leaf_left, parts_of_plan, IsReady, HasRun, outcome_of_plan, outcome_shown, low_and_rows}
use Rattle.palm_leaf.specs.declared.leaf_work.LeafWork.{LeafWork}
use Rattle.palm_leaf.specs.declared.lending.LeafDone.{LeafDone}

-- ---- running

pub all_ready : (nodes : NodeId → Option Node) (least : ℕ) (groups : List Group) (works : List LeafWork) → Matched (IsLoaded nodes least) groups works → AllByRecursion (Holds IsReady) (map Some works)
all_ready nodes least [] [] all = tt
all_ready nodes least [] (work ∷ works) all = absurd all
all_ready nodes least (group ∷ groups) [] all = absurd all
all_ready nodes least (group ∷ groups) (work ∷ works) all = (record { leaf = (rows_at nodes group.leaf, all.0.leaf); plan = subst (λ (node : Node). IsPlan (length (rows_in_node (Some node))) work.plan) (sym all.0.leaf) all.0.plan }, all_ready nodes least groups works all.1)

ended : (nodes : NodeId → Option Node) (least : ℕ) (group : Group) (before after : LeafWork) → IsLoaded nodes least group before → HasRun before after → IsEnded nodes least group after
ended nodes least group before after loaded run =
    let rows = rows_at nodes group.leaf in
    let worked = run rows loaded.leaf in
    let count : length before.plan.asked.items ≡ length group.parts = sym (length-map' part_of before.plan.asked.items) ∙ ap length loaded.parts in
    record {
      id = worked.id ∙ loaded.id;
      leaf = worked.leaf;
      path = ap (λ (path : Bor (List (NodeId × ℕ))). path.now) worked.path ∙ loaded.path;
      few = omega (arith, worked.few, count, before.plan.asked.ok.0, after.plan.later.ok.0);
      answers = worked.answers ∙ ap (answers_in rows) loaded.parts;
      outcome =
          worked.outcome ∙ ap (λ l. leaf_left l before.plan.low (after_all rows (edits_of (parts_of_plan before.plan)))) loaded.least-is
          ∙ ap (λ low. leaf_left least low (after_all rows (edits_of (parts_of_plan before.plan)))) loaded.low
          ∙ ap (λ parts. leaf_left least (written_low group.path group.low) (after_all rows (edits_of parts))) loaded.parts;
    }

-- After the run the leaves are lent as before, and each has become the end of its group.
pub record AreRun (nodes : NodeId → Option Node) (least : ℕ) (groups : List Group) (before : List LeafWork) (after : List (Option LeafWork)) : Type 0 where
  pub ends : Matched (IsEnded nodes least) groups (present after)
  pub same : lease_ids (present after) ≡ lease_ids before

pub all_run : (nodes : NodeId → Option Node) (least : ℕ) (groups : List Group) (before : List LeafWork) (after : List (Option LeafWork)) → Matched (IsLoaded nodes least) groups before → AllZip (Relates HasRun) (map Some before) after → AreRun nodes least groups before after
all_run nodes least [] [] [] all ran = record { ends = tt; same = refl }
all_run nodes least [] [] (a ∷ after) all ran = absurd ran
all_run nodes least [] (work ∷ before) after all ran = absurd all
all_run nodes least (group ∷ groups) [] after all ran = absurd all
all_run nodes least (group ∷ groups) (work ∷ before) [] all ran = absurd ran
all_run nodes least (group ∷ groups) (work ∷ before) (None ∷ after) all ran = absurd ran.0
all_run nodes least (group ∷ groups) (work ∷ before) (Some done ∷ after) all ran =
    let rest = all_run nodes least groups before after all.1 ran.1 in
    let one = ended nodes least group work done all.0 ran.0 in
    record { ends = (one, rest.ends); same = ap (λ (ids : List NodeId). done.lease.id ∷ ids) rest.same ∙ ap (λ (id : NodeId). id ∷ lease_ids before) (one.id ∙ sym all.0.id) }

-- ---- giving back

-- A leaf that was given back stands as its lease had it.
done_are_leases : (start nodes : NodeId → Option Node) (least : ℕ) (groups : List Group) (works : List LeafWork) → Matched (IsEnded start least) groups works → AllByRecursion (λ cell. nodes cell.0 ≡ Some cell.1) (map lease_cell works)
    → done_cells nodes (map done_of works) ≡ map lease_cell works
done_are_leases start nodes least [] [] all held = refl
done_are_leases start nodes least [] (work ∷ works) all held = absurd all
done_are_leases start nodes least (group ∷ groups) [] all held = absurd all
done_are_leases start nodes least (group ∷ groups) (work ∷ works) all held =
    let rows : rows_at nodes work.lease.id ≡ all.0.leaf.0 = ap rows_in_node (held.0 ∙ ap Some all.0.leaf.1) in
    let one : ◌≡◌ {A = Cell} (leaf_cell nodes work.lease.id) (lease_cell work) = ap (λ (node : Node). let cell : Cell = (work.lease.id, node) in cell) (ap Leaf rows ∙ sym all.0.leaf.1) in
    ap (λ (cell : Cell). cell ∷ done_cells nodes (map done_of works)) one ∙ ap (λ (cells : List Cell). lease_cell work ∷ cells) (done_are_leases start nodes least groups works all.1 held.1)

-- The ends that they show are those of their groups.
ends_are : (start nodes : NodeId → Option Node) (least : ℕ) (groups : List Group) (works : List LeafWork) → Matched (IsEnded start least) groups works → AllByRecursion (λ cell. nodes cell.0 ≡ Some cell.1) (map lease_cell works)
    → map (end_of_done nodes) (map done_of works) ≡ map (end_of start least) groups
ends_are start nodes least [] [] all held = refl
ends_are start nodes least [] (work ∷ works) all held = absurd all
ends_are start nodes least (group ∷ groups) [] all held = absurd all
ends_are start nodes least (group ∷ groups) (work ∷ works) all held =
    let rows : rows_at nodes work.lease.id ≡ rows_in_node (Some work.lease.node) = ap rows_in_node held.0 in
    let outcome = ap (λ (rows : List Row). outcome_of_plan rows work.plan) rows ∙ all.0.outcome in
    let one : end_of_done nodes (done_of work) ≡ end_of start least group =
    ap (λ (id : NodeId). let e : LeafEnd = record { node = id; path = work.plan.path.now; outcome = outcome_of_plan (rows_at nodes work.lease.id) work.plan } in e) all.0.id
    ∙ ap (λ (path : List (NodeId × ℕ)). let e : LeafEnd = record { node = group.leaf; path = path; outcome = outcome_of_plan (rows_at nodes work.lease.id) work.plan } in e) all.0.path
    ∙ ap (λ (o : _). let e : LeafEnd = record { node = group.leaf; path = group.path; outcome = o } in e) outcome in
    ap (λ (end : LeafEnd). end ∷ map (end_of_done nodes) (map done_of works)) one ∙ ap (λ (ends : List LeafEnd). end_of start least group ∷ ends) (ends_are start nodes least groups works all.1 held.1)

pub answers_are : (start : NodeId → Option Node) (least : ℕ) (groups : List Group) (works : List LeafWork) → Matched (IsEnded start least) groups works
    → answers_of_done (map done_of works) ≡ flat_map (λ group. answers_in (rows_at start group.leaf) group.parts) groups
answers_are start least [] [] all = refl
answers_are start least [] (work ∷ works) all = absurd all
answers_are start least (group ∷ groups) [] all = absurd all
answers_are start least (group ∷ groups) (work ∷ works) all =
    ap (λ (told : List _). told ++ answers_of_done (map done_of works)) all.0.answers ∙ ap (λ (told : List _). answers_in (rows_at start group.leaf) group.parts ++ told) (answers_are start least groups works all.1)

-- ---- how many

sum_first : {X : Type 0} (f : X → ℕ) (x : X) (xs : List X) → sum_by f (x ∷ xs) ≡ f x + sum_by f xs
sum_first f x xs = omega (arith, sum_by-append f (x ∷ []) xs)

pub some_parts : (groups : List Group) → AllByRecursion (λ group. 1 ≤ length group.parts) groups → length groups ≤ parts_in groups
some_parts [] all = omega arith
some_parts (group ∷ groups) all = omega (arith, all.0, some_parts groups all.1, sum_first (λ (g : Group). length g.parts) group groups)

-- The later leaves are no more than the parts.
pub later_few : (start : NodeId → Option Node) (least : ℕ) (groups : List Group) (works : List LeafWork) → Matched (IsEnded start least) groups works → sum_by (λ (done : LeafDone). length done.plan.later.items) (map done_of works) ≤ parts_in groups
later_few start least [] [] all = omega arith
later_few start least [] (work ∷ works) all = absurd all
later_few start least (group ∷ groups) [] all = absurd all
later_few start least (group ∷ groups) (work ∷ works) all =
    omega (arith, all.0.few, later_few start least groups works all.1, sum_first (λ (g : Group). length g.parts) group groups, sum_first (λ (done : LeafDone). length done.plan.later.items) (done_of work) (map done_of works))

changes_count : (ids : List (List NodeId)) (ends : List LeafEnd) → Fit ids ends → length (changes_at ids ends) ≡ length ends
changes_count [] [] fit = refl
changes_count [] (e ∷ ends) fit = absurd fit
changes_count (i ∷ ids) [] fit = absurd fit
changes_count (i ∷ ids) (e ∷ ends) fit = ap suc (changes_count ids ends fit.1)

pieces_count : (ids : List NodeId) (leaves : List (ℕ × List Row)) → length ids ≡ length leaves → length (pieces_at ids leaves) ≡ length leaves
pieces_count [] [] many = refl
pieces_count [] (l ∷ leaves) many = absurd (omega arith)
pieces_count (i ∷ ids) [] many = absurd (omega arith)
pieces_count (i ∷ ids) (l ∷ leaves) many = ap suc (pieces_count ids leaves (omega arith))

shown_few : (kept : Bool) (low : ℕ) (first : List Row) (later : List (ℕ × List Row)) (rows : List Row) → length (outcome_shown kept low first later rows).pieces - 1 ≤ length later
shown_few true low first later rows = omega arith
shown_few false low first later rows = omega arith

-- The pieces past the first are no more than the parts.
pieces_few : (start : NodeId → Option Node) (least : ℕ) (groups : List Group) (works : List LeafWork) (ids : List (List NodeId)) → Matched (IsEnded start least) groups works → Fit ids (map (end_of start least) groups)
    → sum_by (λ (change : Change). length change.pieces - 1) (changes_at ids (map (end_of start least) groups)) ≤ parts_in groups
pieces_few start least [] [] [] all fit = omega arith
pieces_few start least [] [] (i ∷ ids) all fit = absurd fit
pieces_few start least [] (work ∷ works) ids all fit = absurd all
pieces_few start least (group ∷ groups) [] ids all fit = absurd all
pieces_few start least (group ∷ groups) (work ∷ works) [] all fit = absurd fit
pieces_few start least (group ∷ groups) (work ∷ works) (i ∷ ids) all fit =
    let end = end_of start least group in
    let plan = work.plan in
    let shown = shown_few plan.kept plan.low (rows_in_node (Some work.lease.node)) (map low_and_rows plan.later.items) plan.rows.items in
    let own : length end.outcome.pieces - 1 ≤ length plan.later.items =
    subst (λ (o : Outcome zero). length o.pieces - 1 ≤ length plan.later.items) all.0.outcome (omega (arith, shown, length-map' low_and_rows plan.later.items)) in
    omega (
      arith,
      own,
      all.0.few,
      pieces_count i end.outcome.pieces fit.0,
      pieces_few start least groups works ids all.1 fit.1,
      sum_first (λ (g : Group). length g.parts) group groups,
      sum_first (λ (change : Change). length change.pieces - 1) (change_at i end) (changes_at ids (map (end_of start least) groups)),
    )

-- ---- all together

-- What is left to settle stands in the map.
pub done_owned : (start lent back : NodeId → Option Node) (least : ℕ) (groups : List Group) (works : List LeafWork) (done : List LeafDone) (others : List Cell) → Matched (IsEnded start least) groups works
    → Owns start (group_cells start groups ++ others) → Turns start lent (group_cells start groups) [] → Turns lent back [] (map lease_cell works) → done ≡ map done_of works → Owns back (done_cells back done ++ others)
done_owned start lent back least groups works done others all owned first then is =
    let now = then others (first others owned) in
    let held = first_holds back (map lease_cell works) others now in
    subst (λ (cells : List Cell). Owns back (cells ++ others)) (sym (ap (done_cells back) is ∙ done_are_leases start back least groups works all held)) now

pub leaves_done : (start lent back new : NodeId → Option Node) (least : ℕ) (groups : List Group) (works : List LeafWork) (done : List LeafDone) (others : List Cell) (gathered : Gathered)
    → AllByRecursion (λ group. 1 ≤ length group.parts) groups → Matched (IsEnded start least) groups works
    → Owns start (group_cells start groups ++ others) → Turns start lent (group_cells start groups) [] → Turns lent back [] (map lease_cell works) → done ≡ map done_of works
    → LeavesEnd back new (done_cells back done) (map (end_of_done back) done) gathered.nodes gathered.loose.items → gathered.answers ≡ answers_of_done done → LeavesDone start new least groups gathered
leaves_done start lent back new least groups works done others gathered some all owned first then is ends answers =
    let held = first_holds back (map lease_cell works) others (then others (first others owned)) in
    let cells = map lease_cell works in
    let as_ends : map (end_of_done back) done ≡ map (end_of start least) groups = ap (map (end_of_done back)) is ∙ ends_are start back least groups works all held in
    let as_cells : done_cells back done ≡ cells = ap (done_cells back) is ∙ done_are_leases start back least groups works all held in
    let far : LeavesEnd back new cells (map (end_of start least) groups) gathered.nodes gathered.loose.items =
    subst (λ (es : List LeafEnd). LeavesEnd back new cells es gathered.nodes gathered.loose.items) as_ends
    (subst (λ (cs : List Cell). LeavesEnd back new cs (map (end_of_done back) done) gathered.nodes gathered.loose.items) as_cells ends) in
    record {
      ends = record {
        ids = far.ids;
        fit = far.fit;
        changes-are = far.changes-are;
        loose-are = far.loose-are;
        turned = turns_then start lent new (group_cells start groups) [] (cells_at far.ids (map (end_of start least) groups)) first
            (turns_then lent back new [] cells (cells_at far.ids (map (end_of start least) groups)) then far.turned);
      };
      answers = answers ∙ ap answers_of_done is ∙ answers_are start least groups works all;
      nodes = rw far.changes-are (omega (arith, changes_count far.ids (map (end_of start least) groups) far.fit, length-map' (end_of start least) groups, some_parts groups some));
      pieces = rw far.changes-are (pieces_few start least groups works far.ids all far.fit);
    }
