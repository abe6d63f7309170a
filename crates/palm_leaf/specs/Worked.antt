-- A leaf's work: what it needs, and what it leaves.
use Rattle.std.specs.Prelude.{◌≡◌, ℕ, ◌+◌, ◌<◌, ◌≤◌, Bool, true, false, if◌then◌else◌, List, [], ◌∷◌, length, map, Some, vec_len, vec_capacity}
use Rattle.std.specs.List.{AllByRecursion}
use Rattle.std.proofs.Common.{zero}
use Rattle.palm_base.specs.Table.{after_all, IsTable}
use Rattle.palm_base.specs.Cut.{piece_count}
use Rattle.palm_base.specs.Pass.{Outcome, is_small, leaves_of}
use Rattle.palm_base.specs.declared.bounds.TheConstants.{MOST_LEAF_ROWS}
use Rattle.palm_base.specs.declared.row.Row.{Row}
use Rattle.palm_node.specs.declared.node.Node.TheVariants.{Leaf}
use Rattle.palm_route.specs.Edits.{edits_of}
use Rattle.palm_route.specs.declared.part.Part.{Part}
use Rattle.palm_leaf.specs.Answers.{answers_in, rows_in_node}
use Rattle.palm_leaf.specs.Asked.{all_keep, set_count, answered, part_of, IsOpen}
use Rattle.palm_leaf.specs.declared.answer.PartAnswer.{PartAnswer}
use Rattle.palm_leaf.specs.declared.leaf_work.NewLeaf.{NewLeaf}
use Rattle.palm_leaf.specs.declared.leaf_work.LeafPlan.{LeafPlan}
use Rattle.palm_leaf.specs.declared.leaf_work.LeafWork.{LeafWork}

-- What becomes of a leaf that is left with these rows: where there are some rows, but fewer than `least`, it is removed and
-- they are loose, and else they are cut. So 7 rows are loose for the least 8, and a leaf of them for the least 0.
abbrev pub leaf_left : ℕ → ℕ → List Row → Outcome zero
leaf_left least low rows =
    let leaves : Outcome zero = record { pieces = leaves_of low rows; loose = [] } in
    if is_small least rows then record { pieces = []; loose = rows } else leaves

-- A leaf with its low. So that of the rows b with the low 28 is (28, b).
abbrev pub low_and_rows : NewLeaf → ℕ × List Row
low_and_rows later = (later.low, later.leaf)

-- The outcome that a leaf shows: where it is kept it is the first piece, with these later ones, and else its rows are loose.
-- So with the low 20, the rows a and the later (28, b) it is (20, a), (28, b) where it is kept, and else no piece.
abbrev pub outcome_shown : Bool → ℕ → List Row → List (ℕ × List Row) → List Row → Outcome zero
outcome_shown kept low first later rows =
    let removed : Outcome zero = record { pieces = []; loose = rows } in
    if kept then record { pieces = (low, first) ∷ later; loose = [] } else removed

-- The outcome that a plan shows after the work, where these rows stand in the leaf.
-- So for the rows a and a plan that keeps the leaf, with the low 20 and the later leaf b from 28 on, it is (20, a), (28, b).
abbrev pub outcome_of_plan : List Row → LeafPlan → Outcome zero
outcome_of_plan first plan = outcome_shown plan.kept plan.low first (map low_and_rows plan.later.items) plan.rows.items

-- The parts of a plan, in their order. So those of a plan for Set 44 90 and then a look-up of 44 are these two.
abbrev pub parts_of_plan : LeafPlan → List Part
parts_of_plan plan = map part_of plan.asked.items

-- A plan before the work: nothing is listed yet, and there is room for all that may come of a leaf of so many rows, to which
-- only a Set can add one. Where the parts fit, they are done where the leaf's rows stand, and no room for rows is needed.
-- So one of Set 44 90 and a look-up for a leaf of 16 rows has room for 17 rows and for one later leaf.
pub record IsPlan (held : ℕ) (plan : LeafPlan) : Type 0 where
  pub no_rows : plan.rows.items ≡ []
  pub no_later : plan.later.items ≡ []
  pub row_room : plan.fits ≡ false → held + set_count (parts_of_plan plan) ≤ vec_capacity plan.rows
  pub fits : plan.fits ≡ true → (all_keep (parts_of_plan plan) ≡ true) × (0 < held) × (plan.least ≤ held) × (held + set_count (parts_of_plan plan) ≤ MOST_LEAF_ROWS)
  pub later_room : piece_count MOST_LEAF_ROWS (held + set_count (parts_of_plan plan)) ≤ vec_capacity plan.later + 1
  pub not_kept : plan.kept ≡ false
  pub waits : AllByRecursion (IsOpen (held + set_count (parts_of_plan plan))) plan.asked.items

-- A plan takes room for `most` rows at most: for those of its leaf, and for those that each of its parts may find.
-- So one with room for 17 rows, whose only part is a List with room for 16, takes at most 17, and not 16.
pub record TakesAtMost (most : ℕ) (plan : LeafPlan) : Type 0 where
  pub rows : vec_capacity plan.rows ≤ most
  pub found : AllByRecursion (λ asked. vec_capacity asked.found ≤ most) plan.asked.items

-- The parts of a plan with the answers that they were given, in their order.
-- So after Set 44 90 and a look-up of 44 on no rows they are nothing and then 90.
abbrev pub answers_of_plan : LeafPlan → List PartAnswer
answers_of_plan plan = map answered plan.asked.items

-- The work may be run: its node is a leaf, and its plan is one.
-- So one of Set 44 90 on a leaf of 16 rows may, with room for 17 rows and a later leaf, and one on an inner node may not.
pub record IsReady (work : LeafWork) : Type 0 where
  pub leaf : (rows : List Row) × (work.lease.node ≡ Leaf rows)
  pub plan : IsPlan (length (rows_in_node (Some work.lease.node))) work.plan

-- The work on a leaf of these rows was run: each part is answered on the rows that the parts before it left, and the leaf is
-- what the serial rule makes of it.
-- So after Set 44 90 on the leaf of 44 120 with the least 0 the answer is 120, and the leaf is kept with the row 44 90.
pub record IsWorked (rows : List Row) (before after : LeafWork) : Type 0 where
  pub id : after.lease.id ≡ before.lease.id
  pub path : after.plan.path ≡ before.plan.path
  pub low : after.plan.low ≡ before.plan.low
  pub leaf : (left : List Row) × (after.lease.node ≡ Leaf left)
  pub few : vec_len after.plan.later ≤ vec_len before.plan.asked
  pub answers : answers_of_plan after.plan ≡ answers_in rows (parts_of_plan before.plan)
  pub outcome : outcome_of_plan (rows_in_node (Some after.lease.node)) after.plan ≡ leaf_left before.plan.least before.plan.low (after_all rows (edits_of (parts_of_plan before.plan)))

-- The work was run, whatever the rows of its leaf were.
-- So where the leaf had the row 44 120 and the part is Set 44 90, it is answered 120.
abbrev pub HasRun : LeafWork → LeafWork → Type 0
HasRun before after = (rows : List Row) → before.lease.node ≡ Leaf rows → IsWorked rows before after

-- The parts of a plan were resolved on rows: each is answered, and their edits are done to the rows.
-- So Set 44 90 on the row 44 120 is answered 120, and the rows are 44 90 then.
pub record IsResolved (rows : List Row) (before after : LeafPlan) : Type 0 where
  pub answers : answers_of_plan after ≡ answers_in rows (parts_of_plan before)
  pub rows-are : after.rows.items ≡ after_all rows (edits_of (parts_of_plan before))
  pub table : IsTable after.rows.items
  pub few : vec_len after.rows ≤ length rows + set_count (parts_of_plan before)
  pub path : after.path ≡ before.path
  pub low : after.low ≡ before.low
  pub least : after.least ≡ before.least
  pub later : after.later ≡ before.later
  pub kept : after.kept ≡ before.kept
