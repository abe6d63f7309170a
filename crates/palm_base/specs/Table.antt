-- The rating table, and what one call answers and leaves. Rows go by the keys of their prefixes.
use Rattle.std.specs.Prelude.{ℕ, ◌<◌, ◌==◌, ◌&&◌, nat_lt, nat_le, not, Bool, if◌then◌else◌, List, [], ◌∷◌, length, take, filter, Option, None, Some}
use Rattle.std.specs.List.{AllByRecursion}
use Rattle.palm_base.specs.Prefix.{begins}
use Rattle.palm_base.specs.Key.{key}
use Rattle.palm_base.specs.declared.row.Row.{Row}
use Rattle.palm_base.specs.declared.call.Call.{Call}
use Rattle.palm_base.specs.declared.call.Call.TheVariants.{Set, Del, Get, Rate, List as Listing}
use Rattle.palm_base.specs.declared.call.Reply.{Reply}
use Rattle.palm_base.specs.declared.call.Reply.TheVariants.{New, Was, Gone, Absent, Value, Hit, Rows}

-- The key of a row: that of its prefix. So the row of 1 at 5 has the key 0x1000000000000001.
abbrev pub row_key : Row → ℕ
row_key row = key row.prefix

-- A table: its prefixes strictly rise. So the rows of 1, 10 and 2 in this order are a table.
abbrev pub IsTable : List Row → Type 0
IsTable [] = Unit {0}
IsTable (row ∷ rows) = AllByRecursion (λ later. row_key row < row_key later) rows × IsTable rows

-- The rate of the row with this key, where there is one. So among 1 at 5 and 10 at 7 it is 7 by the key of 10, and there is
-- none by that of 2.
abbrev pub rate_at : ℕ → List Row → Option ℕ
rate_at k [] = None
rate_at k (row ∷ rows) = if row_key row == k then Some row.rate else rate_at k rows

-- The table with this row in place of the row of its prefix, or put in at its place. So the row of 10 is put between those of 1
-- and 2, and in place of another row of 10.
abbrev pub put : Row → List Row → List Row
put new [] = new ∷ []
put new (row ∷ rows) =
    let later = row ∷ put new rows in
    if nat_lt (row_key new) (row_key row) then new ∷ row ∷ rows else if row_key new == row_key row then new ∷ rows else later

-- The rows with another key. So of the rows of 1, 10 and 2 those of 1 and 2 are left without the key of 10.
abbrev pub without : ℕ → List Row → List Row
without k rows = filter (λ row. not (row_key row == k)) rows

-- Of a row and perhaps another, the one with more digits. So of the rows of 44 and 4 it is that of 44, and of two as long the
-- first.
abbrev pub longer : Row → Option Row → Option Row
longer row None = Some row
longer row (Some other) = if nat_lt (length row.prefix) (length other.prefix) then Some other else Some row

-- The row with the most digits, where there is a row. So of the rows of 4, 442 and 44 it is that of 442.
abbrev pub longest : List Row → Option Row
longest [] = None
longest (row ∷ rows) = longer row (longest rows)

-- The row of the longest prefix that begins the number. So among 4, 44 and 45 that of 44 is the one for 442.
abbrev pub best_for : List ℕ → List Row → Option Row
best_for number rows = longest (filter (λ row. begins row.prefix number) rows)

-- The row's key lies from one key to another, both included. So the row of 10 lies from the key of 1 to that of 10, and that of
-- 2 doesn't.
abbrev pub lies_within : ℕ → ℕ → Row → Bool
lies_within from to row = nat_le from (row_key row) && nat_le (row_key row) to

-- The reply by what is found, and Absent where that is nothing. So by Value it is Value 5 where 5 is found.
abbrev pub or_absent : {X : Type 0} → (X → Reply) → Option X → Reply
or_absent found None = Absent
or_absent found (Some x) = found x

-- The reply to a Set, by the rate that its prefix had. So it is Was 5 where that is 5, and New where there is none.
abbrev pub new_or_was : Option ℕ → Reply
new_or_was None = New
new_or_was (Some old) = Was old

-- What a call answers on a table. So on the table of 44 at 5, a Get of 44 answers Value 5 and a Set of it Was 5.
abbrev pub answer : List Row → Call → Reply
answer rows (Set prefix rate) = new_or_was (rate_at (key prefix) rows)
answer rows (Del prefix) = or_absent Gone (rate_at (key prefix) rows)
answer rows (Get prefix) = or_absent Value (rate_at (key prefix) rows)
answer rows (Rate number) = or_absent Hit (best_for number rows)
answer rows (Listing from to limit) = Rows (take limit (filter (lies_within (key from) (key to)) rows))

-- What a call leaves of a table. So a Del of 44 leaves the rows with another prefix, and a Get leaves all.
abbrev pub after : List Row → Call → List Row
after rows (Set prefix rate) = put (record { prefix = prefix; rate = rate }) rows
after rows (Del prefix) = without (key prefix) rows
after rows (Get prefix) = rows
after rows (Rate number) = rows
after rows (Listing from to limit) = rows

-- What calls leave of a table, one after another. So Set 44 5, Del 44 leave of the empty table no row.
abbrev pub after_all : List Row → List Call → List Row
after_all rows [] = rows
after_all rows (call ∷ calls) = after_all (after rows call) calls
