-- Answers that no earlier edit of a batch can change.
use Rattle.std.proofs.Common.{◌≡◌, ℕ, zero, suc, Bool, true, false, cond, List, [], ◌∷◌, take, filter, refl, ap, ◌∙◌}
use Rattle.std.specs.Prelude.{slice_get, Option, None, Some}
use Rattle.std.specs.List.{AllByRecursion}
use Rattle.palm_base.specs.Key.{key}
use Rattle.palm_base.specs.Lows.{SetsPrefix}
use Rattle.palm_base.specs.Table.{row_key, lies_within, or_absent, new_or_was, answer, after_all}
use Rattle.palm_base.specs.History.{calls_of}
use Rattle.palm_base.specs.declared.row.Row.{Row}
use Rattle.palm_base.specs.declared.call.Call.{Call}
use Rattle.palm_base.specs.declared.call.Call.TheVariants.{Set, Del, Get, Rate, List as Listing}
use Rattle.palm_base.specs.declared.call.Reply.TheVariants.{Gone, Rows}
use Rattle.palm_base.specs.declared.call.Entry.{Entry}
use Rattle.palm_base.proofs.Every.{every_take}
use Rattle.palm_base.proofs.Histories.{histories_go_by_calls}
use Rattle.palm_base.proofs.Replies.{replies_stand_in_place}
use Rattle.palm_base.specs.Pass.{is_edit}
use Rattle.palm_base.specs.LookUps.{EditsAt, NoEditAt, IsBetween, last_key, edit_entries}
use Rattle.palm_base.specs.LookLaws.{AnswersHold, RepliesHold}
use Rattle.palm_base.proofs.KeptRows.{rate_kept, gets_hold, table_kept}
use Rattle.palm_base.proofs.KeptRates.{rates_hold}
use Rattle.palm_base.proofs.KeptLists.{lists_hold, within_kept, first_alike}

pub answers_hold : AnswersHold
answers_hold rows calls (Set prefix rate) table hold sets digits none = ap new_or_was (rate_kept (key prefix) rows calls none)
answers_hold rows calls (Del prefix) table hold sets digits none = ap (or_absent Gone) (rate_kept (key prefix) rows calls none)
answers_hold rows calls (Get prefix) table hold sets digits none = gets_hold rows calls prefix none
answers_hold rows calls (Rate number) table hold sets digits none = rates_hold rows calls number hold sets digits none
answers_hold rows calls (Listing from to zero) table hold sets digits none = refl
answers_hold rows calls (Listing from to (suc n)) table hold sets digits none =
    by (slice_get (filter (lies_within (key from) (key to)) rows) n) refl none
  where
    by : (reached : Option Row) → slice_get (filter (lies_within (key from) (key to)) rows) n ≡ reached
        → NoEditAt (IsBetween (key from) (last_key (key to) reached)) calls
        → answer (after_all rows calls) (Listing from to (suc n)) ≡ answer rows (Listing from to (suc n))
    by None is none = lists_hold rows calls from to (suc n) none
    by (Some last) is none =
        ap Rows
        (first_alike (key from) (key to) n rows (after_all rows calls) last table (table_kept rows calls table) is
        (within_kept (key from) (row_key last) rows calls none))

-- The calls of the first entries.
pub calls_of_take : (n : ℕ) (entries : List Entry) → calls_of (take n entries) ≡ take n (calls_of entries)
calls_of_take zero entries = refl
calls_of_take (suc n) [] = refl
calls_of_take (suc n) (entry ∷ entries) = ap (λ (calls : List Call). entry.call ∷ calls) (calls_of_take n entries)

-- What no edit of a history is at, no edit before a place of it is.
pub no_edit_before : (P : ℕ → Type 0) (n : ℕ) (entries : List Entry) → NoEditAt P (calls_of entries) → NoEditAt P (calls_of (take n entries))
no_edit_before P n entries none = rw calls_of_take (every_take (EditsAt (λ k. P k → ⊥)) n (calls_of entries) none)

look_up_is_none : (P : ℕ → Type 0) (call : Call) → is_edit call ≡ false → EditsAt P call
look_up_is_none P (Set prefix rate) not = cc
look_up_is_none P (Del prefix) not = cc
look_up_is_none P (Get prefix) not = tt
look_up_is_none P (Rate number) not = tt
look_up_is_none P (Listing from to limit) not = tt

-- What none of a history's edits alone is at, no edit of the history is.
pub no_edit_from_edits : (P : ℕ → Type 0) (entries : List Entry) → NoEditAt P (calls_of (edit_entries entries)) → NoEditAt P (calls_of entries)
no_edit_from_edits P [] none = tt
no_edit_from_edits P (entry ∷ entries) none = by (is_edit entry.call) refl (no_edit_from_edits P entries) none
  where
    by : (b : Bool) → is_edit entry.call ≡ b → (NoEditAt P (calls_of (edit_entries entries)) → NoEditAt P (calls_of entries))
        → NoEditAt P (calls_of (cond b (entry ∷ edit_entries entries) (edit_entries entries))) → NoEditAt P (calls_of (entry ∷ entries))
    by true is rest none = (none.0, rest none.1)
    by false not rest none = (look_up_is_none (λ k. P k → ⊥) entry.call not, rest none)

pub replies_hold : RepliesHold
replies_hold rows entries n entry table hold sets digits at none =
    let first : AllByRecursion SetsPrefix (calls_of (take n entries)) = rw calls_of_take (every_take SetsPrefix n (calls_of entries) sets) in
    replies_stand_in_place rows entries n entry at
    ∙ ap (λ (table : List Row). Some (answer table entry.call)) (histories_go_by_calls rows (take n entries))
    ∙ ap Some (answers_hold rows (calls_of (take n entries)) entry.call table hold first digits none)
