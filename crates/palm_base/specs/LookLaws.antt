-- The laws of look-ups, which the functions of the module of laws carry.
use Rattle.std.specs.Prelude.{◌≡◌, ℕ, ◌+◌, List, take, slice_get, Some}
use Rattle.std.specs.List.{AllByRecursion}
use Rattle.palm_base.specs.Key.{key}
use Rattle.palm_base.specs.Prefix.{IsPrefix}
use Rattle.palm_base.specs.Lows.{PrefixesHold, SetsPrefix}
use Rattle.palm_base.specs.Table.{row_key, IsTable, answer, after_all}
use Rattle.palm_base.specs.History.{calls_of, table_after, replies_to}
use Rattle.palm_base.specs.declared.row.Row.{Row}
use Rattle.palm_base.specs.declared.call.Call.{Call}
use Rattle.palm_base.specs.declared.call.Call.TheVariants.{Get, Rate, List as Listing}
use Rattle.palm_base.specs.declared.call.Reply.TheVariants.{Rows}
use Rattle.palm_base.specs.declared.call.Entry.{Entry}
use Rattle.palm_base.specs.LookUps.{NoEditAt, digits_hit, IsFrontKey, IsBetween, Matters, RatesDigits, edit_entries, edit_replies}

-- The answer to a Get is the same before and after calls of which none is a Set or Del of its prefix.
-- So that to Get 44 is the same before and after Set 45 9, Del 4.
abbrev pub GetsHold : Type 0
GetsHold =
    (rows : List Row) (calls : List Call) (prefix : List ℕ) → NoEditAt (λ k. k ≡ key prefix) calls
    → answer (after_all rows calls) (Get prefix) ≡ answer rows (Get prefix)

-- The answer to a Rate is the same before and after calls of which none is a Set or Del of a front of the number with
-- as many digits as the row that was hit, or more. So where 442 hits the row of 44 before, it does after Set 4 9, Del 45.
abbrev pub RatesHold : Type 0
RatesHold =
    (rows : List Row) (calls : List Call) (number : List ℕ) → PrefixesHold rows → AllByRecursion SetsPrefix calls → IsPrefix number
    → NoEditAt (IsFrontKey (digits_hit (answer rows (Rate number))) number) calls
    → answer (after_all rows calls) (Rate number) ≡ answer rows (Rate number)

-- The answer to a List is the same before and after calls of which none is a Set or Del of a prefix that lies from its
-- first to its last. So that to List 4 45 9 is the same before and after Set 5 9.
abbrev pub ListsHold : Type 0
ListsHold =
    (rows : List Row) (calls : List Call) (from to : List ℕ) (limit : ℕ) → NoEditAt (IsBetween (key from) (key to)) calls
    → answer (after_all rows calls) (Listing from to limit) ≡ answer rows (Listing from to limit)

-- Where a List reached its limit, edits past the last row that it answered leave its answer too.
-- So where List 4 5 2 answers the rows of 4 and 44, it does after Set 45 9.
abbrev pub FullListsHold : Type 0
FullListsHold =
    (rows shown : List Row) (calls : List Call) (from to : List ℕ) (n : ℕ) (last : Row) → IsTable rows
    → answer rows (Listing from to (n + 1)) ≡ Rows shown → slice_get shown n ≡ Some last
    → NoEditAt (IsBetween (key from) (row_key last)) calls
    → answer (after_all rows calls) (Listing from to (n + 1)) ≡ Rows shown

-- A history leaves what its edits alone leave. So Set 44 5, Get 44 leave what Set 44 5 leaves.
abbrev pub LookUpsLeaveTheTable : Type 0
LookUpsLeaveTheTable = (rows : List Row) (entries : List Entry) → table_after rows (edit_entries entries) ≡ table_after rows entries

-- The replies to a history's edits are those to the history of its edits alone.
-- So to Set 44 5, Get 44, Del 44 they are New, Gone 5, as to Set 44 5, Del 44.
abbrev pub EditsAreAnsweredAlone : Type 0
EditsAreAnsweredAlone =
    (rows : List Row) (entries : List Entry) → edit_replies entries (replies_to rows entries) ≡ replies_to rows (edit_entries entries)

-- The reply at a place of a history is the answer on the table that the edits before the place leave.
-- So the third reply to Set 44 5, Get 44, Del 44 is the answer to Del 44 on the table that Set 44 5 leaves.
abbrev pub RepliesGoByEdits : Type 0
RepliesGoByEdits =
    (rows : List Row) (entries : List Entry) (n : ℕ) (entry : Entry) → slice_get entries n ≡ Some entry
    → slice_get (replies_to rows entries) n ≡ Some (answer (table_after rows (edit_entries (take n entries))) entry.call)

-- The answer to a call is the same before and after calls of which no edit is at a key that matters to it.
-- So on the table of 44 that to List 4 5 9 is the same before and after Set 6 9.
abbrev pub AnswersHold : Type 0
AnswersHold =
    (rows : List Row) (calls : List Call) (call : Call) → IsTable rows → PrefixesHold rows → AllByRecursion SetsPrefix calls
    → RatesDigits call → NoEditAt (Matters rows call) calls → answer (after_all rows calls) call ≡ answer rows call

-- So the reply at a place of a history is the answer on the table before the history, where no edit of the history is at a
-- key that matters to it. So Get 44 in a batch whose edits are at other prefixes is answered on the table before the batch.
abbrev pub RepliesHold : Type 0
RepliesHold =
    (rows : List Row) (entries : List Entry) (n : ℕ) (entry : Entry) → IsTable rows → PrefixesHold rows
    → AllByRecursion SetsPrefix (calls_of entries) → RatesDigits entry.call → slice_get entries n ≡ Some entry
    → NoEditAt (Matters rows entry.call) (calls_of (take n entries))
    → slice_get (replies_to rows entries) n ≡ Some (answer rows entry.call)
