-- The laws of the definitions, which the functions of the module of laws carry.
use Rattle.std.specs.Prelude.{◌≡◌, ℕ, ◌+◌, ◌<◌, ◌≤◌, List, [], ◌∷◌, length, slice_get, Some}
use Rattle.std.specs.Bool.{Decides}
use Rattle.std.specs.List.{flat_map}
use Rattle.palm_base.specs.Prefix.{IsPrefix, comes_before}
use Rattle.palm_base.specs.Key.{key}
use Rattle.palm_base.specs.Cut.{piece_count, piece_size, cut}
use Rattle.palm_base.specs.Table.{IsTable, answer, after, after_all}
use Rattle.palm_base.specs.History.{calls_of, table_after, table_at, replies_to}
use Rattle.palm_base.specs.declared.row.Row.{Row}
use Rattle.palm_base.specs.declared.call.Call.{Call}
use Rattle.palm_base.specs.declared.call.Entry.{Entry}

-- A prefix stands before another exactly where its key is below the other's. So 1, 0 stands before 2, and 0x1000000000000002 is
-- below 0x2000000000000001.
abbrev pub KeysKeepOrder : Type 0
KeysKeepOrder = (p q : List ℕ) → IsPrefix p → IsPrefix q → Decides (comes_before p q) (key p < key q)

-- Two prefixes with one key are one. So 4 and 4, 0 have two keys, 0x4000000000000001 and 0x4000000000000002.
abbrev pub KeysAreDistinct : Type 0
KeysAreDistinct = (p q : List ℕ) → IsPrefix p → IsPrefix q → key p ≡ key q → p ≡ q

-- Each call leaves a table. So a Set of 10 puts its row between those of 1 and 2.
abbrev pub CallsKeepTables : Type 0
CallsKeepTables = (rows : List Row) (call : Call) → IsTable rows → IsTable (after rows call)

-- A history leaves what its calls leave, whoever the callers are. So Set 44 5, Del 44 leave of the empty table no row, be they
-- one caller's or two callers'.
abbrev pub HistoriesGoByCalls : Type 0
HistoriesGoByCalls = (rows : List Row) (entries : List Entry) → table_after rows entries ≡ after_all rows (calls_of entries)

-- The reply at each place of a history is the answer to the call there, on the table at that place.
-- So the third reply to Set 44 5, Get 44, Del 44 is Gone 5: the answer to Del 44 on the table that the first two leave.
abbrev pub RepliesStandInPlace : Type 0
RepliesStandInPlace =
    (rows : List Row) (entries : List Entry) (n : ℕ) (entry : Entry) → slice_get entries n ≡ Some entry
    → slice_get (replies_to rows entries) n ≡ Some (answer (table_at rows entries n) entry.call)

-- A history has one reply for each entry. So three calls have three.
abbrev pub RepliesAreAsMany : Type 0
RepliesAreAsMany = (rows : List Row) (entries : List Entry) → length (replies_to rows entries) ≡ length entries

-- The pieces of a list, joined, are the list. So those of a, b, c at the width 2 join to a, b, c.
abbrev pub PiecesJoin : Type 0 → Type 0
PiecesJoin X = (width : ℕ) (items : List X) → 0 < width → flat_map (λ piece. piece) (cut width items) ≡ items

-- A list has as many pieces as its length says. So one of 17 items has 2 at the width 16.
abbrev pub PiecesAreCounted : Type 0 → Type 0
PiecesAreCounted X = (width : ℕ) (items : List X) → length (cut width items) ≡ piece_count width (length items)

-- The piece at a place has as many items as the list's length says. So the second of 17 items has 8 at the width 16.
abbrev pub PiecesAreSized : Type 0 → Type 0
PiecesAreSized X =
    (width : ℕ) (items piece : List X) (i : ℕ) → 0 < width → slice_get (cut width items) i ≡ Some piece
    → length piece ≡ piece_size width (length items) i

-- Where there are more items than the width, each piece is at least half as wide, and no wider.
-- So at the width 16 each piece of 17 items or more has 8 to 16.
abbrev pub PiecesAreWide : Type 0 → Type 0
PiecesAreWide X =
    (half : ℕ) (items piece : List X) (i : ℕ) → 0 < half → half + half < length items
    → slice_get (cut (half + half) items) i ≡ Some piece → (half ≤ length piece) × (length piece ≤ half + half)

-- A list of at least one item and no more than the width is one piece. So at the width 16 a list of 16 items is its only piece.
abbrev pub FewAreOnePiece : Type 0 → Type 0
FewAreOnePiece X = (width : ℕ) (items : List X) → 0 < length items → length items ≤ width → cut width items ≡ items ∷ []
