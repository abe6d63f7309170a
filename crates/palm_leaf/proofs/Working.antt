-- What a leaf's work leaves where the leaf isn't written: it is removed, or stands for itself.
use Rattle.std.proofs.Common.{◌≡◌, ◌≤◌, ◌<◌, ◌||◌, ◌&&◌, vec_len, length, ℕ, true, false, List, [], ◌∷◌, refl, sym, ap, subst, arith, ◌∙◌, ◌⊎◌, inl, inr, Some}
use Rattle.std.proofs.lemmas.Bool.{le-ltb}
use Rattle.palm_base.specs.Table.{after_all}
use Rattle.palm_base.specs.Pass.{is_small}
use Rattle.palm_base.specs.declared.bounds.TheConstants.{MOST_LEAF_ROWS}
use Rattle.palm_base.specs.declared.row.Row.{Row}
use Rattle.palm_base.proofs.Cuts.{cut_none, few_are_one_piece}
use Rattle.palm_node.specs.declared.node.Node.{Node}
use Rattle.palm_node.specs.declared.node.Node.TheVariants.{Leaf}
use Rattle.palm_route.specs.Edits.{edit_before, edits_of}
use Rattle.palm_route.specs.declared.part.Ask.{Ask}
use Rattle.palm_route.specs.declared.part.Ask.TheVariants as ask
use Rattle.palm_route.specs.declared.part.Part.{Part}
use Rattle.palm_leaf.specs.Answers.{answers_in, rows_in_node}
use Rattle.palm_leaf.specs.Asked.{is_edit, has_edit}
use Rattle.palm_leaf.specs.Worked.{answers_of_plan, leaf_left, outcome_shown, parts_of_plan, IsResolved, IsWorked}
use Rattle.palm_leaf.specs.declared.leaf_work.LeafPlan.{LeafPlan}
use Rattle.palm_leaf.specs.declared.leaf_work.LeafWork.{LeafWork}

-- No row, or too few, are no leaf.
pub left_removed : (least low : ℕ) (rows first : List Row) (later : List (ℕ × List Row)) → ((rows ≡ []) ⊎ (is_small least rows ≡ true)) → outcome_shown false low first later rows ≡ leaf_left least low rows
left_removed least low rows first later (inl none) = rw (none, cut_none {X = Row} MOST_LEAF_ROWS (omega arith)) refl
left_removed least low rows first later (inr small) = rw small refl

pub worked_removed : (rows : List Row) (node : Node) (work : LeafWork) (plan : LeafPlan) → IsResolved (rows_in_node (Some node)) work.plan plan → node ≡ work.lease.node → work.lease.node ≡ Leaf rows
    → work.plan.kept ≡ false → vec_len work.plan.later ≡ 0 → ((plan.rows.items ≡ []) ⊎ (is_small plan.least plan.rows.items ≡ true)) → IsWorked rows work (record { lease = work.lease; plan = plan })
worked_removed rows node work plan resolved read leaf not_kept none removed =
    let done : IsResolved rows work.plan plan = subst (λ n. IsResolved (rows_in_node (Some n)) work.plan plan) (read ∙ leaf) resolved in
    let few : vec_len plan.later ≤ vec_len work.plan.asked = rw (done.later, none) (omega arith) in
    record {
      id = refl;
      path = done.path;
      low = done.low;
      leaf = (rows, leaf);
      few = few;
      answers = done.answers;
      outcome = rw (done.kept ∙ not_kept)
          (left_removed plan.least work.plan.low plan.rows.items [] [] removed
          ∙ ap (λ least. leaf_left least work.plan.low plan.rows.items) done.least ∙ ap (leaf_left work.plan.least work.plan.low) done.rows-are);
    }

-- Parts that look and list leave the rows as they are.
no_edits : (parts : List Part) → has_edit parts ≡ false → edits_of parts ≡ []
no_edits [] none = refl
no_edits (part ∷ parts) none = by part.ask none (no_edits parts)
  where
    by : (what : Ask) → is_edit what || has_edit parts ≡ false → (has_edit parts ≡ false → edits_of parts ≡ []) → edit_before part.key what (edits_of parts) ≡ []
    by (ask.Set rate) none rest = absurd cc
    by ask.Del none rest = absurd cc
    by ask.Look none rest = rest none
    by (ask.List from to limit) none rest = rest none

-- Rows that are enough for a leaf, and not too many, are one.
left_itself : (least low : ℕ) (rows : List Row) → 0 < length rows → is_small least rows ≡ false → length rows ≤ MOST_LEAF_ROWS → leaf_left least low rows ≡ record { pieces = (low, rows) ∷ []; loose = [] }
left_itself least low rows some enough few = rw (enough, few_are_one_piece MOST_LEAF_ROWS rows some few) refl

-- A leaf that has no edit, and enough rows, stands for itself.
pub worked_itself : (rows : List Row) (node : Node) (work : LeafWork) (plan : LeafPlan) → IsResolved (rows_in_node (Some node)) work.plan plan → node ≡ work.lease.node → work.lease.node ≡ Leaf rows
    → work.plan.later.items ≡ [] → vec_len work.plan.later ≡ 0 → has_edit (parts_of_plan work.plan) ≡ false → length (rows_in_node (Some node)) ≤ MOST_LEAF_ROWS
    → (0 < length plan.rows.items) × (is_small plan.least plan.rows.items ≡ false) → IsWorked rows work (record { lease = work.lease; plan = record plan { kept = true } })
worked_itself rows node work plan resolved read leaf no_later none looks most stays =
    let held : rows_in_node (Some node) ≡ rows = ap (λ n. rows_in_node (Some n)) (read ∙ leaf) in
    let done : IsResolved rows work.plan plan = subst (λ rs. IsResolved rs work.plan plan) held resolved in
    let same : after_all rows (edits_of (parts_of_plan work.plan)) ≡ rows = ap (after_all rows) (no_edits (parts_of_plan work.plan) looks) in
    let stands : plan.rows.items ≡ rows = done.rows-are ∙ same in
    let few : vec_len plan.later ≤ vec_len work.plan.asked = rw (done.later, none) (omega arith) in
    let enough : is_small work.plan.least rows ≡ false = sym (ap (is_small plan.least) stands ∙ ap (λ least. is_small least rows) done.least) ∙ stays.1 in
    let own : leaf_left work.plan.least work.plan.low rows ≡ record { pieces = (work.plan.low, rows) ∷ []; loose = [] } =
    left_itself work.plan.least work.plan.low rows (subst (λ rs. 0 < length rs) stands stays.0) enough (subst (λ rs. length rs ≤ MOST_LEAF_ROWS) held most) in
    record {
      id = refl;
      path = done.path;
      low = done.low;
      leaf = (rows, leaf);
      few = few;
      answers = done.answers;
      outcome = rw (leaf, done.later, no_later, done.low, same) (sym own);
    }

not_small : (least : ℕ) (rows : List Row) → least ≤ length rows → is_small least rows ≡ false
not_small least [] enough = refl
not_small least (row ∷ rows) enough = le-ltb (length (row ∷ rows)) least enough

-- A leaf in which all was done where its rows stand, and that has enough of them, stands on whole.
pub worked_fitting : (rows : List Row) (work after : LeafWork) → work.lease.node ≡ Leaf rows → after.lease.id ≡ work.lease.id → after.plan ≡ record work.plan { asked = after.plan.asked; kept = true }
    → after.lease.node ≡ Leaf (after_all rows (edits_of (parts_of_plan work.plan))) → answers_of_plan after.plan ≡ answers_in rows (parts_of_plan work.plan)
    → work.plan.later.items ≡ [] → vec_len work.plan.later ≡ 0 → 0 < length rows → work.plan.least ≤ length rows → length rows ≤ length (rows_in_node (Some after.lease.node))
    → length (rows_in_node (Some after.lease.node)) ≤ MOST_LEAF_ROWS → IsWorked rows work after
worked_fitting rows work after leaf id only written answered no_later none some enough no_fewer most =
    let left = after_all rows (edits_of (parts_of_plan work.plan)) in
    let held : rows_in_node (Some after.lease.node) ≡ left = ap (λ n. rows_in_node (Some n)) written in
    let later : after.plan.later ≡ work.plan.later = ap (λ (p : LeafPlan). p.later) only in
    let low : after.plan.low ≡ work.plan.low = ap (λ (p : LeafPlan). p.low) only in
    let kept : after.plan.kept ≡ true = ap (λ (p : LeafPlan). p.kept) only in
    let few : vec_len after.plan.later ≤ vec_len work.plan.asked = rw (later, none) (omega arith) in
    let long : length rows ≤ length left = subst (λ rs. length rows ≤ length rs) held no_fewer in
    let own : leaf_left work.plan.least work.plan.low left ≡ record { pieces = (work.plan.low, left) ∷ []; loose = [] } =
    left_itself work.plan.least work.plan.low left (omega (arith, some, long)) (not_small work.plan.least left (omega (arith, enough, long))) (subst (λ rs. length rs ≤ MOST_LEAF_ROWS) held most) in
    record {
      id = id;
      path = ap (λ (p : LeafPlan). p.path) only;
      low = low;
      leaf = (left, written);
      few = few;
      answers = answered;
      outcome = rw (kept, written, later, no_later, low) (sym own);
    }
