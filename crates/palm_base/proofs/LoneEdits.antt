-- Look-ups leave the table, so a history goes by its edits.
use Rattle.std.proofs.Common.{◌≡◌, Bool, true, false, cond, List, [], ◌∷◌, take, refl, sym, ap, ◌∙◌}
use Rattle.std.specs.Prelude.{Some}
use Rattle.palm_base.specs.Table.{answer, after}
use Rattle.palm_base.specs.History.{table_after, replies_to}
use Rattle.palm_base.specs.declared.row.Row.{Row}
use Rattle.palm_base.specs.declared.call.Call.{Call}
use Rattle.palm_base.specs.declared.call.Call.TheVariants.{Set, Del, Get, Rate, List as Listing}
use Rattle.palm_base.specs.declared.call.Reply.{Reply}
use Rattle.palm_base.proofs.Replies.{replies_stand_in_place}
use Rattle.palm_base.specs.Pass.{is_edit}
use Rattle.palm_base.specs.LookUps.{edit_entries, edit_replies}
use Rattle.palm_base.specs.LookLaws.{LookUpsLeaveTheTable, EditsAreAnsweredAlone, RepliesGoByEdits}

look_up_leaves : (rows : List Row) (call : Call) → is_edit call ≡ false → after rows call ≡ rows
look_up_leaves rows (Set prefix rate) not = cc
look_up_leaves rows (Del prefix) not = cc
look_up_leaves rows (Get prefix) not = refl
look_up_leaves rows (Rate number) not = refl
look_up_leaves rows (Listing from to limit) not = refl

pub look_ups_leave_the_table : LookUpsLeaveTheTable
look_ups_leave_the_table rows [] = refl
look_ups_leave_the_table rows (entry ∷ entries) = by (is_edit entry.call) refl (look_ups_leave_the_table (after rows entry.call) entries)
  where
    by : (b : Bool) → is_edit entry.call ≡ b
        → table_after (after rows entry.call) (edit_entries entries) ≡ table_after (after rows entry.call) entries
        → table_after rows (cond b (entry ∷ edit_entries entries) (edit_entries entries)) ≡ table_after (after rows entry.call) entries
    by true is rest = rest
    by false not rest = ap (λ rows. table_after rows (edit_entries entries)) (sym (look_up_leaves rows entry.call not)) ∙ rest

pub edits_are_answered_alone : EditsAreAnsweredAlone
edits_are_answered_alone rows [] = refl
edits_are_answered_alone rows (entry ∷ entries) = by (is_edit entry.call) refl (edits_are_answered_alone (after rows entry.call) entries)
  where
    by : (b : Bool) → is_edit entry.call ≡ b
        → edit_replies entries (replies_to (after rows entry.call) entries) ≡ replies_to (after rows entry.call) (edit_entries entries)
        → cond b (answer rows entry.call ∷ edit_replies entries (replies_to (after rows entry.call) entries)) (edit_replies entries (replies_to (after rows entry.call) entries))
        ≡ replies_to rows (cond b (entry ∷ edit_entries entries) (edit_entries entries))
    by true is rest = ap (λ (replies : List Reply). answer rows entry.call ∷ replies) rest
    by false not rest = rest ∙ ap (λ rows. replies_to rows (edit_entries entries)) (look_up_leaves rows entry.call not)

pub replies_go_by_edits : RepliesGoByEdits
replies_go_by_edits rows entries n entry at =
    replies_stand_in_place rows entries n entry at
    ∙ ap (λ rows. Some (answer rows entry.call)) (sym (look_ups_leave_the_table rows (take n entries)))
