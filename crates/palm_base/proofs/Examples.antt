-- Worked examples of the definitions, which the checker computes.
use Rattle.std.proofs.Common.{◌≡◌, ℕ, true, false, List, [], ◌∷◌, refl}
use Rattle.std.specs.Prelude.{codes, map, replicate, length, Ok, Err}
use Rattle.std.specs.Fmt.{digits}
use Rattle.palm_base.specs.Prefix.{begins, comes_before, read_of, fault_text}
use Rattle.palm_base.specs.Key.{key}
use Rattle.palm_base.specs.Cut.{piece_count, piece_size, cut}
use Rattle.palm_base.specs.Table.{answer, after}
use Rattle.palm_base.specs.History.{replies_to, table_after, batches}
use Rattle.palm_base.specs.declared.digits.DigitsFault.TheVariants.{Empty, Long, NotDigit}
use Rattle.palm_base.specs.declared.row.Row.{Row}
use Rattle.palm_base.specs.declared.call.Call.{Call}
use Rattle.palm_base.specs.declared.call.Call.TheVariants.{Set, Del, Get, Rate, List as Listing}
use Rattle.palm_base.specs.declared.call.Reply.TheVariants.{New, Was, Gone, Absent, Value, Hit, Rows}
use Rattle.palm_base.specs.declared.call.Entry.{Entry}

-- ---- keys

-- A prefix of one zero is told from the empty word by the number of its digits.
key-0 : key (0 ∷ []) ≡ 0x0000000000000001
key-0 = refl

-- Zeros that differ only in their number have keys that differ in the lowest group.
key-00 : key (0 ∷ 0 ∷ []) ≡ 0x0000000000000002
key-00 = refl

-- The first digit stands in the highest group.
key-1 : key (1 ∷ []) ≡ 0x1000000000000001
key-1 = refl

-- A zero after it shows in the number of digits alone.
key-10 : key (1 ∷ 0 ∷ []) ≡ 0x1000000000000002
key-10 = refl

key-44 : key (4 ∷ 4 ∷ []) ≡ 0x4400000000000002
key-44 = refl

-- Fifteen digits fill the groups above the lowest.
key-longest : key (1 ∷ 2 ∷ 3 ∷ 4 ∷ 5 ∷ 6 ∷ 7 ∷ 8 ∷ 9 ∷ 0 ∷ 1 ∷ 2 ∷ 3 ∷ 4 ∷ 5 ∷ []) ≡ 0x123456789012345F
key-longest = refl

-- The greatest key.
key-greatest : key (9 ∷ 9 ∷ 9 ∷ 9 ∷ 9 ∷ 9 ∷ 9 ∷ 9 ∷ 9 ∷ 9 ∷ 9 ∷ 9 ∷ 9 ∷ 9 ∷ 9 ∷ []) ≡ 0x999999999999999F
key-greatest = refl

-- ---- texts

-- A text of digits spells a prefix.
read-44 : read_of (codes "44") ≡ Ok (4 ∷ 4 ∷ [])
read-44 = refl

-- Another byte among them is a fault, named by its place from 0.
read-4a : read_of (codes "4a") ≡ Err (NotDigit 1)
read-4a = refl

-- The empty text is no prefix.
read-empty : read_of (codes "") ≡ Err Empty
read-empty = refl

-- Fifteen digits are a prefix's most.
read-long : read_of (codes "1234567890123456") ≡ Err Long
read-long = refl

-- Faults are told in words.
fault-no_digit : fault_text (NotDigit 1) ≡ codes "byte 1 is no digit"
unfolding digits
fault-no_digit = refl

fault-long : fault_text Long ≡ codes "more than 15 digits"
unfolding digits
fault-long = refl

-- ---- the order of prefixes

-- A prefix stands before those that it begins.
before-longer : comes_before (1 ∷ []) (1 ∷ 0 ∷ []) ≡ true
before-longer = refl

-- The first digit that differs decides, not the number of digits.
before-greater : comes_before (1 ∷ 9 ∷ []) (2 ∷ []) ≡ true
before-greater = refl

not_before-less : comes_before (2 ∷ []) (1 ∷ 9 ∷ []) ≡ false
not_before-less = refl

begins-longer : begins (4 ∷ 4 ∷ []) (4 ∷ 4 ∷ 2 ∷ []) ≡ true
begins-longer = refl

-- No prefix begins a shorter one.
begins-shorter : begins (4 ∷ 4 ∷ 2 ∷ []) (4 ∷ 4 ∷ []) ≡ false
begins-shorter = refl

-- ---- calls on one table

abbrev row : List ℕ → ℕ → Row
row prefix rate = record { prefix = prefix; rate = rate }

-- 1, 10, 100 and 1000 with rates of 1, 2, 3 and 4.
abbrev rows : List Row
rows = row (1 ∷ []) 1 ∷ row (1 ∷ 0 ∷ []) 2 ∷ row (1 ∷ 0 ∷ 0 ∷ []) 3 ∷ row (1 ∷ 0 ∷ 0 ∷ 0 ∷ []) 4 ∷ []

-- A Set of 10 to 7 is answered its old rate, and leaves the new one in its place.
set-answer : answer rows (Set (1 ∷ 0 ∷ []) 7) ≡ Was 2
set-answer = refl

set-after : after rows (Set (1 ∷ 0 ∷ []) 7) ≡ row (1 ∷ []) 1 ∷ row (1 ∷ 0 ∷ []) 7 ∷ row (1 ∷ 0 ∷ 0 ∷ []) 3 ∷ row (1 ∷ 0 ∷ 0 ∷ 0 ∷ []) 4 ∷ []
set-after = refl

-- A Set of 11, which has no row, is answered New, and puts the row after those of 10, 100 and 1000.
set-new-answer : answer rows (Set (1 ∷ 1 ∷ []) 7) ≡ New
set-new-answer = refl

set-new-after : after rows (Set (1 ∷ 1 ∷ []) 7) ≡ row (1 ∷ []) 1 ∷ row (1 ∷ 0 ∷ []) 2 ∷ row (1 ∷ 0 ∷ 0 ∷ []) 3 ∷ row (1 ∷ 0 ∷ 0 ∷ 0 ∷ []) 4 ∷ row (1 ∷ 1 ∷ []) 7 ∷ []
set-new-after = refl

-- A Del of 100 is answered its rate, and takes out its row alone.
del-answer : answer rows (Del (1 ∷ 0 ∷ 0 ∷ [])) ≡ Gone 3
del-answer = refl

del-after : after rows (Del (1 ∷ 0 ∷ 0 ∷ [])) ≡ row (1 ∷ []) 1 ∷ row (1 ∷ 0 ∷ []) 2 ∷ row (1 ∷ 0 ∷ 0 ∷ 0 ∷ []) 4 ∷ []
del-after = refl

-- A Get asks for the prefix's own row, not for one that begins it: 1001 has none.
get-answer : answer rows (Get (1 ∷ 0 ∷ 0 ∷ 0 ∷ [])) ≡ Value 4
get-answer = refl

get-absent : answer rows (Get (1 ∷ 0 ∷ 0 ∷ 1 ∷ [])) ≡ Absent
get-absent = refl

get-after : after rows (Get (1 ∷ 0 ∷ 0 ∷ 0 ∷ [])) ≡ rows
get-after = refl

-- 1, 10 and 100 begin 1001, and the longest of them is hit.
rate-answer : answer rows (Rate (1 ∷ 0 ∷ 0 ∷ 1 ∷ [])) ≡ Hit (row (1 ∷ 0 ∷ 0 ∷ []) 3)
rate-answer = refl

rate-after : after rows (Rate (1 ∷ 0 ∷ 0 ∷ 1 ∷ [])) ≡ rows
rate-after = refl

-- No row's prefix begins 2.
rate-absent : answer rows (Rate (2 ∷ [])) ≡ Absent
rate-absent = refl

-- Both ends of a List are included: from 10 to 100 it has two rows where it may have three, and that of 1000 is past its end.
list-ends : answer rows (Listing (1 ∷ 0 ∷ []) (1 ∷ 0 ∷ 0 ∷ []) 3) ≡ Rows (row (1 ∷ 0 ∷ []) 2 ∷ row (1 ∷ 0 ∷ 0 ∷ []) 3 ∷ [])
list-ends = refl

-- The limit cuts off the last rows.
list-answer : answer rows (Listing (1 ∷ 0 ∷ []) (1 ∷ 0 ∷ 0 ∷ 0 ∷ []) 2) ≡ Rows (row (1 ∷ 0 ∷ []) 2 ∷ row (1 ∷ 0 ∷ 0 ∷ []) 3 ∷ [])
list-answer = refl

-- From 5 to 4 there is no row.
list-none : answer rows (Listing (5 ∷ []) (4 ∷ []) 10) ≡ Rows []
list-none = refl

list-after : after rows (Listing (5 ∷ []) (4 ∷ []) 10) ≡ rows
list-after = refl

-- ---- a history

abbrev entry : ℕ → Call → Entry
entry place call = record { caller = 0; place = place; call = call }

-- One caller sets 44, asks for it, takes it out, and then finds nothing more.
abbrev history : List Entry
history = entry 0 (Set (4 ∷ 4 ∷ []) 5) ∷ entry 1 (Get (4 ∷ 4 ∷ [])) ∷ entry 2 (Del (4 ∷ 4 ∷ [])) ∷ entry 3 (Get (4 ∷ 4 ∷ [])) ∷ entry 4 (Del (4 ∷ 4 ∷ [])) ∷ []

-- Each reply is on the table that the calls before it leave.
history-replies : replies_to [] history ≡ New ∷ Value 5 ∷ Gone 5 ∷ Absent ∷ Absent ∷ []
history-replies = refl

history-after : table_after [] history ≡ []
history-after = refl

-- The lengths 2, 3 cut the five entries into the first two and the other three.
history-batches : batches history (2 ∷ 3 ∷ [])
    ≡ (entry 0 (Set (4 ∷ 4 ∷ []) 5) ∷ entry 1 (Get (4 ∷ 4 ∷ [])) ∷ []) ∷ (entry 2 (Del (4 ∷ 4 ∷ [])) ∷ entry 3 (Get (4 ∷ 4 ∷ [])) ∷ entry 4 (Del (4 ∷ 4 ∷ [])) ∷ []) ∷ []
history-batches = refl

-- ---- cuts at the width 16

-- How long the pieces of t items are.
abbrev cut_lengths : ℕ → List ℕ
cut_lengths t = map length (cut {X = ℕ} 16 (replicate t 0))

cut-0 : cut_lengths 0 ≡ []
unfolding cut
cut-0 = refl

cut-1 : cut_lengths 1 ≡ 1 ∷ []
unfolding cut
cut-1 = refl

-- As many as the width are one piece.
cut-16 : cut_lengths 16 ≡ 16 ∷ []
unfolding cut
cut-16 = refl

-- One more makes two pieces, shared out evenly.
cut-17 : cut_lengths 17 ≡ 9 ∷ 8 ∷ []
unfolding cut
cut-17 = refl

cut-32 : cut_lengths 32 ≡ 16 ∷ 16 ∷ []
unfolding cut
cut-32 = refl

cut-33 : cut_lengths 33 ≡ 11 ∷ 11 ∷ 11 ∷ []
unfolding cut
cut-33 = refl

-- The larger pieces come first.
cut-34 : cut_lengths 34 ≡ 12 ∷ 11 ∷ 11 ∷ []
unfolding cut
cut-34 = refl

count-34 : piece_count 16 34 ≡ 3
count-34 = refl

size-first : piece_size 16 34 0 ≡ 12
size-first = refl

size-last : piece_size 16 34 2 ≡ 11
size-last = refl
