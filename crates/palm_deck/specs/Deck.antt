-- Decks: which bytes are decks, what they say, and how a table is written as one.
use Rattle.std.specs.Prelude.{ℕ, ◌+◌, ◌≡◌, ◌==◌, ◌&&◌, Bool, false, if◌then◌else◌, List, [], ◌∷◌, ◌++◌, length, take, drop, codes, Result, Ok, Err}
use Rattle.std.specs.List.{flat_map}
use Rattle.std.specs.Fmt.{decimal}
use Rattle.std.specs.Result.{result_map_both}
use Rattle.std.specs.Str.{bytes_eq}
use Rattle.csv.specs.Reading.{default_config, records, strip_bom}
use Rattle.palm_base.specs.Prefix.{digits_in, is_dialled}
use Rattle.palm_base.specs.Numbers.{value_of, is_rate}
use Rattle.palm_base.specs.Text.{digits_text}
use Rattle.palm_base.specs.History.{numbered}
use Rattle.palm_base.specs.declared.row.Row.{Row}
use Rattle.palm_base.specs.declared.call.Call.{Call}
use Rattle.palm_base.specs.declared.call.Call.TheVariants.{Set, Del}
use Rattle.palm_base.specs.declared.call.Entry.{Entry}
use Rattle.palm_deck.specs.declared.deck.DeckWhy.{DeckWhy}
use Rattle.palm_deck.specs.declared.deck.DeckWhy.TheVariants.{Header, Fields, Op, Prefix, Rate}
use Rattle.palm_deck.specs.declared.deck.DeckFault.{DeckFault}
use Rattle.palm_deck.specs.declared.deck.DeckFault.TheVariants.{NoMemory, Bad}

-- A record: its fields, each as bytes. So "set", "44", "5" is one, of three fields.
abbrev pub Record : Type 0
Record = List (List ℕ)

-- ---- the records of a deck

-- The mark that spreadsheets write at the front. So it is 239, 187 and 191.
abbrev pub order_mark : List ℕ
order_mark = 0xEF ∷ 0xBB ∷ 0xBF ∷ []

-- The bytes behind the mark, where it stands at their front. So 239, 187, 191, 111 leave 111, and 111 alone leaves 111 too.
abbrev pub without_mark : List ℕ → List ℕ
without_mark bytes = if bytes_eq (take 3 bytes) order_mark then drop 3 bytes else bytes

-- The records of a deck: those that `csv` reads of the bytes without the mark. It drops a second mark by itself, and lines
-- without bytes are no records. So those of "op,prefix,rate\nset,44,5\n" are "op", "prefix", "rate" and "set", "44", "5".
abbrev pub records_of : List ℕ → List Record
records_of bytes = records default_config (strip_bom (without_mark bytes))

-- ---- what a record says

-- The record is "op", "prefix", "rate". So "op", "prefix" isn't it, nor is "OP", "prefix", "rate".
abbrev pub is_header : Record → Bool
is_header (op ∷ prefix ∷ rate ∷ []) = bytes_eq op (codes "op") && bytes_eq prefix (codes "prefix") && bytes_eq rate (codes "rate")
is_header _ = false

-- The edit of a `set` with this prefix and rate. So "4x" and "-1" have the fault Prefix, and "4" and "-1" the fault Rate.
abbrev pub set_in : List ℕ → List ℕ → Result Call DeckWhy
set_in prefix rate =
    if is_dialled prefix then (if is_rate rate then Ok (Set (digits_in prefix) (value_of rate)) else Err Rate) else Err Prefix

-- The edit of a `del` with this prefix and rate. So "4" and "" are the Del of 4, and "4" and "1" have the fault Rate.
abbrev pub del_in : List ℕ → List ℕ → Result Call DeckWhy
del_in prefix rate =
    if is_dialled prefix then (if length rate == 0 then Ok (Del (digits_in prefix)) else Err Rate) else Err Prefix

-- The edit that three fields ask for. So "put", "4x" and "-1" have the fault Op.
abbrev pub call_in : List ℕ → List ℕ → List ℕ → Result Call DeckWhy
call_in op prefix rate =
    if bytes_eq op (codes "set") then set_in prefix rate else
    if bytes_eq op (codes "del") then del_in prefix rate else Err Op

-- The edit of a record behind the header, or what is wrong with it. So "set", "4" has the fault Fields.
abbrev pub call_by : Record → Result Call DeckWhy
call_by (op ∷ prefix ∷ rate ∷ []) = call_in op prefix rate
call_by _ = Err Fields

-- The same of record n, whose fault carries its number. So "set", "4x", "1" as record 2 has the fault Bad 2 Prefix.
abbrev pub call_at : ℕ → Record → Result Call DeckFault
call_at n fields = result_map_both (λ call. call) (λ why. Bad n why) (call_by fields)

-- ---- what a deck says

-- A record's edit before those of the records behind it, or the first fault of them all.
-- So Set 44 5 before Del 4 makes Set 44 5, Del 4, and before a fault of row 3 it makes that fault.
abbrev pub before : Result Call DeckFault → Result (List Call) DeckFault → Result (List Call) DeckFault
before (Err fault) rest = Err fault
before (Ok call) (Err fault) = Err fault
before (Ok call) (Ok calls) = Ok (call ∷ calls)

-- The edits of records of which the first is record n, or the first fault in their order.
-- So "set", "44", "5" and "del", "4", "" from 2 on are Set 44 5, Del 4, and with "1" at the end row 3 has the fault Rate.
abbrev pub calls_from : ℕ → List Record → Result (List Call) DeckFault
calls_from n [] = Ok []
calls_from n (fields ∷ rest) = before (call_at n fields) (calls_from (n + 1) rest)

-- The edits of all records of a deck, of which the first is the header, or the first fault.
-- So the header and "set", "44", "5" say Set 44 5, and without the header the fault is Bad 1 Header.
abbrev pub calls_in : List Record → Result (List Call) DeckFault
calls_in [] = Err (Bad 1 Header)
calls_in (first ∷ rest) = if is_header first then calls_from 2 rest else Err (Bad 1 Header)

-- Edits as entries of caller 0 with the places 0, 1, 2 and so on. So Set 44 5, Del 4 are (0, 0, Set 44 5), (0, 1, Del 4).
abbrev pub placed : Result (List Call) DeckFault → Result (List Entry) DeckFault
placed (Err fault) = Err fault
placed (Ok calls) = Ok (numbered 0 0 calls)

-- What a deck says, or its first fault. So the deck of the lines "op,prefix,rate", "set,44,1000" and "del,441," says
-- Set 44 1000 at place 0 and Del 441 at place 1. With the second line "set,44,x" row 2 has the fault Rate.
abbrev pub deck_of : List ℕ → Result (List Entry) DeckFault
deck_of bytes = placed (calls_in (records_of bytes))

-- The entries are those of the records before this one and its own edit: the header is record 1, so that the n-th edit,
-- counted from 0, is that of record n + 2. So after no entry "set", "44", "5" is record 2, and leaves (0, 0, Set 44 5).
abbrev pub IsNext : Record → List Entry → List Entry → Type 0
IsNext fields entries more =
    (call : Call) × (call_at (length entries + 2) fields ≡ Ok call)
    × (more ≡ entries ++ (record { caller = 0; place = length entries; call = call }) ∷ [])

-- ---- how a deck is written

-- A row's line. So that of 44 at 5 is "set,44,5".
abbrev pub row_line : Row → List ℕ
row_line row = codes "set," ++ (digits_text row.prefix ++ (codes "," ++ (decimal row.rate ++ codes "\n")))

-- The deck of rows: the header, and each row's line. So that of 44 at 5 has the lines "op,prefix,rate" and "set,44,5".
abbrev pub deck_text : List Row → List ℕ
deck_text rows = codes "op,prefix,rate\n" ++ flat_map row_line rows

-- ---- how a fault is told

-- The code of what is wrong with a record. So that of Header is 1, and that of Rate is 5.
abbrev pub why_code : DeckWhy → ℕ
why_code Header = 1
why_code Fields = 2
why_code Op = 3
why_code Prefix = 4
why_code Rate = 5

-- The text of a fault, as "row 2 fault 4".
abbrev pub fault_text : DeckFault → List ℕ
fault_text NoMemory = codes "no memory"
fault_text (Bad row why) = codes "row " ++ (decimal row ++ (codes " fault " ++ decimal (why_code why)))
