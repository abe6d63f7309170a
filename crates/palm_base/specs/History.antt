-- Histories: calls in the order of their arrival, each with its caller and its place among the caller's calls.
use Rattle.std.specs.Prelude.{◌≡◌, ℕ, ◌+◌, ◌==◌, ◌<◌, List, [], ◌∷◌, length, map, take, drop, sum, filter, All, slice_index, slice_index_or}
use Rattle.std.specs.List.{AllByRecursion}
use Rattle.palm_base.specs.Table.{answer, after}
use Rattle.palm_base.specs.declared.row.Row.{Row}
use Rattle.palm_base.specs.declared.call.Call.{Call}
use Rattle.palm_base.specs.declared.call.Reply.{Reply}
use Rattle.palm_base.specs.declared.call.Entry.{Entry}

-- The calls of a history, in order. So those of (3, 7, x), (2, 0, y) are x, y.
abbrev pub calls_of : List Entry → List Call
calls_of entries = map (λ entry. entry.call) entries

-- The table that a history leaves. So Set 44 5, Set 45 9, Del 44 leave of the empty table the row of 45.
abbrev pub table_after : List Row → List Entry → List Row
table_after rows [] = rows
table_after rows (entry ∷ entries) = table_after (after rows entry.call) entries

-- The table at a place of a history: the one that the entries before it leave. So from the empty table on, Set 44 5, Del 44
-- have at the place 1 the row of 44, and at 2 no row.
abbrev pub table_at : List Row → List Entry → ℕ → List Row
table_at rows entries n = table_after rows (take n entries)

-- The replies to a history, in its order: each on the table that the entries before it leave.
-- So on the empty table Set 44 5, Get 44, Del 44 are answered New, Value 5, Gone 5.
abbrev pub replies_to : List Row → List Entry → List Reply
replies_to rows [] = []
replies_to rows (entry ∷ entries) = answer rows entry.call ∷ replies_to (after rows entry.call) entries

-- The entries of one caller, in order. So of (3, 7, x), (2, 0, y), (3, 8, z) those of 3 are the first and the last.
abbrev pub entries_of : ℕ → List Entry → List Entry
entries_of caller entries = filter (λ entry. entry.caller == caller) entries

-- A caller's calls as entries, with places that count on from the first.
-- So the calls x, y of the caller 3 from the place 7 on are (3, 7, x), (3, 8, y).
abbrev pub numbered : ℕ → ℕ → List Call → List Entry
numbered caller place [] = []
numbered caller place (call ∷ calls) = record { caller = caller; place = place; call = call } ∷ numbered caller (place + 1) calls

-- The history keeps each caller's order: the caller c has the calls lists[c], whole and in order, placed from firsts[c] on. So
-- where 0 has the calls x, y and 1 has z, placed from 0 on, (0, 0, x), (1, 0, z), (0, 1, y) keeps their order, and (0, 1, y),
-- (0, 0, x), (1, 0, z) doesn't.
pub record KeepsOrder (firsts : List ℕ) (lists : List (List Call)) (entries : List Entry) : Type 0 where
  pub callers : All (λ (entry : Entry). entry.caller < length lists) entries
  pub calls : (caller : ℕ) → caller < length lists → entries_of caller entries ≡ numbered caller (slice_index firsts caller) (slice_index_or lists caller [])

-- A cutting of a history: lengths of at least 1 that add up to its length. So 2, 3 is a cutting of five entries.
pub record IsCutting (entries : List Entry) (lengths : List ℕ) : Type 0 where
  pub some : AllByRecursion (λ n. 0 < n) lengths
  pub whole : sum lengths ≡ length entries

-- The batches of a history by a cutting. So by 2, 1 those of x, y, z are (x, y) and (z).
abbrev pub batches : List Entry → List ℕ → List (List Entry)
batches entries [] = []
batches entries (n ∷ lengths) = take n entries ∷ batches (drop n entries) lengths
