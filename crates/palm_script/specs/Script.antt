-- A script: its lines, and the items that they ask for up to the first faulty line.
use Rattle.std.specs.Prelude.{◌≡◌, ◌<◌, ℕ, ◌+◌, ◌-◌, ◌==◌, nat_lt, Bool, false, true, ◌&&◌, if◌then◌else◌, List, [], ◌∷◌, ◌++◌, length, map, take, slice_index, count_by, Option, Some, None, Result, Ok, Err}
use Rattle.std.specs.List.{slice_split}
use Rattle.palm_base.specs.declared.call.Call.{Call}
use Rattle.palm_base.specs.declared.call.Entry.{Entry}
use Rattle.palm_script.specs.Line.{line_of}
use Rattle.palm_script.specs.declared.script.Script.{Script}
use Rattle.palm_script.specs.declared.script.SectionEnd.{SectionEnd}
use Rattle.palm_script.specs.declared.line.Line.{Line}
use Rattle.palm_script.specs.declared.line.Line.TheVariants.{Skip, Made, Cut, Dump}
use Rattle.palm_script.specs.declared.line.LineFault.{LineFault}

-- The byte that ends a line. So 10 is it, and 13 isn't.
abbrev pub is_feed : ℕ → Bool
is_feed b = b == 10

-- A carriage return at the end of a line is no part of it. So "a\r" is the line "a", and "a\r\r" is "a\r".
abbrev pub without_return : List ℕ → List ℕ
without_return text = if slice_index text (length text - 1) == 13 then take (length text - 1) text else text

-- Of the parts between line feeds the last is a line only where the text is whole and the part isn't empty.
-- So of "a" and "b" both are lines where the text is whole, and else "a" alone.
abbrev pub ended : Bool → List (List ℕ) → List (List ℕ)
ended whole [] = []
ended whole (part ∷ []) = if whole && nat_lt 0 (length part) then part ∷ [] else []
ended whole (part ∷ parts) = part ∷ ended whole parts

-- The lines of a text, without their endings. So "a\r\nb" has the line "a", and where it is whole the line "b" too.
abbrev pub lines_of : List ℕ → Bool → List (List ℕ)
lines_of text whole = map without_return (ended whole (slice_split is_feed text))

-- What a script says: the lines that aren't skipped, before the first faulty line, and the fault of that line.
-- So "cut", "#" and "64 get 4" say the item Cut, and have the fault Caller of line 3.
pub record Outcome : Type 0 where
  pub items : List Line
  pub fault : Option LineFault

-- What a script says by its first line and by the lines behind that: a fault ends it.
-- So Dump before what says Cut makes Dump, Cut, and a fault before it leaves no item.
abbrev pub first_then : Result Line LineFault → Outcome → Outcome
first_then (Err fault) rest = record { items = []; fault = Some fault }
first_then (Ok Skip) rest = rest
first_then (Ok (Made caller call)) rest = record { items = Made caller call ∷ rest.items; fault = rest.fault }
first_then (Ok Cut) rest = record { items = Cut ∷ rest.items; fault = rest.fault }
first_then (Ok Dump) rest = record { items = Dump ∷ rest.items; fault = rest.fault }

-- What these lines say, of which the first is the n-th. So "cut" and "x" from line 3 on say Cut, with the fault Caller of line 4.
abbrev pub outcome_from : ℕ → List (List ℕ) → Outcome
outcome_from n [] = record { items = []; fault = None }
outcome_from n (text ∷ texts) = first_then (line_of text n) (outcome_from (n + 1) texts)

-- What a script says. Where its text isn't whole, the bytes after its last line feed are no line.
-- So "cut\ndump" says Cut, Dump where it is whole, and else Cut alone.
abbrev pub script_of : List ℕ → Bool → Outcome
script_of text whole = outcome_from 1 (lines_of text whole)

-- The next entry of a caller, after these. So after (3, 0, x), (0, 0, y) the caller 3's z is (3, 1, z).
abbrev pub next_entry : List Entry → ℕ → Call → Entry
next_entry before caller call = record { caller = caller; place = count_by (λ entry. entry.caller == caller) before; call = call }

-- The entries that items make after these, in the order of the lines.
-- So where caller 3 makes the calls x, y they are (3, 0, x), (3, 1, y).
abbrev pub entries_from : List Entry → List Line → List Entry
entries_from before [] = []
entries_from before (Skip ∷ items) = entries_from before items
entries_from before (Made caller call ∷ items) =
    let entry = next_entry before caller call in
    entry ∷ entries_from (before ++ entry ∷ []) items
entries_from before (Cut ∷ items) = entries_from before items
entries_from before (Dump ∷ items) = entries_from before items

-- The ends of the sections that items have, where the section under way has so many calls: each is a `cut` or a `dump`. So
-- two calls, a dump, a call and a cut are the ends (2, with a dump) and (1, without).
abbrev pub ends_from : ℕ → List Line → List SectionEnd
ends_from n [] = []
ends_from n (Skip ∷ items) = ends_from n items
ends_from n (Made caller call ∷ items) = ends_from (n + 1) items
ends_from n (Cut ∷ items) = record { calls = n; dumps = false } ∷ ends_from 0 items
ends_from n (Dump ∷ items) = record { calls = n; dumps = true } ∷ ends_from 0 items

-- The calls of one caller, in the order of the lines.
-- So of the caller 3's x, the caller 0's y and the caller 3's z those of 3 are x, z.
abbrev pub calls_by : ℕ → List Line → List Call
calls_by caller [] = []
calls_by caller (Skip ∷ items) = calls_by caller items
calls_by caller (Made other call ∷ items) = if other == caller then call ∷ calls_by caller items else calls_by caller items
calls_by caller (Cut ∷ items) = calls_by caller items
calls_by caller (Dump ∷ items) = calls_by caller items

-- The script that was read has the entries and the ends of these items, and this fault.
-- So "0 get 4" and "cut" are said by the script of the entry (0, 0, Get 4), the end (1, without a dump) and no fault.
pub record Says (outcome : Outcome) (script : Script) : Type 0 where
  pub entries : script.entries.items ≡ entries_from [] outcome.items
  pub ends : script.ends.items ≡ ends_from 0 outcome.items
  pub fault : script.fault ≡ outcome.fault

-- These are the numbers of the calls that each caller has made.
-- So after (3, 0, x), (0, 0, y), (3, 1, z) they are 1, 0, 0, 2, and 0 for each later caller.
abbrev pub AreCounts : List ℕ → List Entry → Type 0
AreCounts counts entries = (caller : ℕ) → caller < 64 → slice_index counts caller ≡ count_by (λ entry. entry.caller == caller) entries
