-- Look-ups of a history, and the edits that leave their answers alone.
use Rattle.std.specs.Prelude.{◌≡◌, ℕ, ◌≤◌, if◌then◌else◌, List, [], ◌∷◌, length, take, filter, slice_get, Option, None, Some}
use Rattle.std.proofs.Common.{zero, suc}
use Rattle.std.specs.List.{AllByRecursion}
use Rattle.palm_base.specs.Key.{key}
use Rattle.palm_base.specs.Prefix.{IsPrefix}
use Rattle.palm_base.specs.Table.{row_key, lies_within, answer}
use Rattle.palm_base.specs.Pass.{is_edit}
use Rattle.palm_base.specs.declared.row.Row.{Row}
use Rattle.palm_base.specs.declared.call.Call.{Call}
use Rattle.palm_base.specs.declared.call.Call.TheVariants.{Set, Del, Get, Rate, List as Listing}
use Rattle.palm_base.specs.declared.call.Reply.{Reply}
use Rattle.palm_base.specs.declared.call.Reply.TheVariants.{New, Was, Gone, Absent, Value, Hit, Rows}
use Rattle.palm_base.specs.declared.call.Entry.{Entry}

-- The key of an edit's prefix has this property. So of a Set of 44 the key of 44 has it, and of a look-up nothing is asked.
abbrev pub EditsAt : (ℕ → Type 0) → Call → Type 0
EditsAt P (Set prefix rate) = P (key prefix)
EditsAt P (Del prefix) = P (key prefix)
EditsAt P (Get prefix) = Unit {0}
EditsAt P (Rate number) = Unit {0}
EditsAt P (Listing from to limit) = Unit {0}

-- No edit among the calls is at a key with this property.
-- So among Set 44 5, Get 45 none is at the key of 45.
abbrev pub NoEditAt : (ℕ → Type 0) → List Call → Type 0
NoEditAt P calls = AllByRecursion (EditsAt (λ k. P k → ⊥)) calls

-- How many digits the row of a Hit has, and 0 for another reply. So for the row of 44 it is 2.
abbrev pub digits_hit : Reply → ℕ
digits_hit (Hit row) = length row.prefix
digits_hit New = 0
digits_hit (Was rate) = 0
digits_hit (Gone rate) = 0
digits_hit Absent = 0
digits_hit (Value rate) = 0
digits_hit (Rows rows) = 0

-- The key of a front of the number with at least so many digits, and one or more.
-- So of 442 the fronts with at least 2 digits are 44 and 442.
pub record IsFrontKey (least : ℕ) (number : List ℕ) (k : ℕ) : Type 0 where
  pub digits : ℕ
  pub some : 1 ≤ digits
  pub enough : least ≤ digits
  pub few : digits ≤ length number
  pub same : key (take digits number) ≡ k

-- The key lies from one key to another, both included.
pub record IsBetween (from to k : ℕ) : Type 0 where
  pub least : from ≤ k
  pub most : k ≤ to

-- The row at which rows reach a limit, where there are as many.
-- So the rows of 4, 44 and 45 reach the limit 2 at that of 44, and don't reach 4.
abbrev pub row_at_limit : ℕ → List Row → Option Row
row_at_limit zero rows = None
row_at_limit (suc n) rows = slice_get rows n

-- The last key that matters to a List: that of the row at which it reached its limit, and else that of its last prefix.
abbrev pub last_key : ℕ → Option Row → ℕ
last_key to None = to
last_key to (Some last) = row_key last

-- The key matters to what a call answers on a table: it is that of the prefix of a Set, a Del or a Get, of a front of a Rate's
-- number with as many digits as the row that it hits or more, or it lies in a List's range up to the row at which the List
-- reaches its limit. So on the table of 4 and 44 the keys of 44 and 442 matter to Rate 442, and that of 4 doesn't.
abbrev pub Matters : List Row → Call → ℕ → Type 0
Matters rows (Set prefix rate) k = k ≡ key prefix
Matters rows (Del prefix) k = k ≡ key prefix
Matters rows (Get prefix) k = k ≡ key prefix
Matters rows (Rate number) k = IsFrontKey (digits_hit (answer rows (Rate number))) number k
Matters rows (Listing from to limit) k =
    IsBetween (key from) (last_key (key to) (row_at_limit limit (filter (lies_within (key from) (key to)) rows))) k

-- A Rate is of 1 to 15 digits. So Rate 44 is, and of other calls nothing is asked.
abbrev pub RatesDigits : Call → Type 0
RatesDigits (Set prefix rate) = Unit {0}
RatesDigits (Del prefix) = Unit {0}
RatesDigits (Get prefix) = Unit {0}
RatesDigits (Rate number) = IsPrefix number
RatesDigits (Listing from to limit) = Unit {0}

-- The entries of a history that are edits, in order.
-- So of Set 44 5, Get 44, Del 44 they are the first and the last.
abbrev pub edit_entries : List Entry → List Entry
edit_entries entries = filter (λ entry. is_edit entry.call) entries

-- Of replies that stand in the places of their entries, those to edits.
-- So of New, Value 5, Gone 5 to Set 44 5, Get 44, Del 44 they are New, Gone 5.
abbrev pub edit_replies : List Entry → List Reply → List Reply
edit_replies [] replies = []
edit_replies (entry ∷ entries) [] = []
edit_replies (entry ∷ entries) (reply ∷ replies) =
    let rest = edit_replies entries replies in
    if is_edit entry.call then reply ∷ rest else rest

-- The answer to a look-up on a table, and None for an edit.
-- So on the table of 44 at 5 that for Get 44 is Value 5, and for Set 44 9 there is none.
abbrev pub looked : List Row → Entry → Option Reply
looked rows entry = if is_edit entry.call then None else Some (answer rows entry.call)
