-- One line of a script: its fields, and what they say.
use Rattle.std.specs.Prelude.{◌≤◌, ℕ, ◌==◌, nat_lt, Bool, ◌||◌, if◌then◌else◌, List, [], ◌∷◌, ◌++◌, length, filter, slice_index, codes, Result, Ok, Err}
use Rattle.std.specs.List.{slice_split}
use Rattle.std.specs.Fmt.{decimal}
use Rattle.std.specs.Result.{result_map_both}
use Rattle.std.specs.Str.{bytes_eq}
use Rattle.palm_base.specs.Prefix.{digits_in, is_dialled}
use Rattle.palm_base.specs.Numbers.{value_of, is_from_to, is_rate}
use Rattle.palm_base.specs.declared.amount.TheConstants.{MOST_LIMIT}
use Rattle.palm_base.specs.declared.call.Call.{Call}
use Rattle.palm_base.specs.declared.call.Call.TheVariants.{Set, Del, Get, Rate, List as Listing}
use Rattle.palm_script.specs.declared.line.TheConstants.{MOST_CALLER, MOST_LINE}
use Rattle.palm_script.specs.declared.line.Line.{Line}
use Rattle.palm_script.specs.declared.line.Line.TheVariants.{Skip, Made, Cut, Dump}
use Rattle.palm_script.specs.declared.line.LineFault.{LineFault}
use Rattle.palm_script.specs.declared.line.LineWhy.{LineWhy}
use Rattle.palm_script.specs.declared.line.LineWhy.TheVariants.{Caller, Word, Count, Prefix, Number, Long}
use Rattle.palm_script.specs.declared.line.LineWhy.TheVariants as whys

-- A blank or a tab. So the bytes 32 and 9 are, and 10 isn't.
abbrev pub is_blank : ℕ → Bool
is_blank b = b == 32 || b == 9

-- The fields of a line: the parts between blanks and tabs that aren't empty. So " 0  get 44" has "0", "get" and "44".
abbrev pub fields : List ℕ → List (List ℕ)
fields text = filter (λ part. nat_lt 0 (length part)) (slice_split is_blank text)

-- A field is a caller: a number from 0 to 63. So "007" is one, and "64" isn't.
abbrev pub is_caller : List ℕ → Bool
is_caller field = is_from_to 0 MOST_CALLER field

-- A field is a limit: a number from 1 to 1,000. So "0010" is one, and "0" isn't.
abbrev pub is_limit : List ℕ → Bool
is_limit field = is_from_to 1 MOST_LIMIT field

-- The call of good arguments, or the fault of the leftmost bad one. Each argument is given by whether it is good, and by
-- its fault if it isn't. So where a prefix and then a rate are both bad, the fault is Prefix.
abbrev pub call_or_fault : List (Bool × LineWhy) → Call → Result Call LineWhy
call_or_fault [] call = Ok call
call_or_fault (argument ∷ arguments) call = if argument.0 then call_or_fault arguments call else Err argument.1

-- The forms of the five words. Each takes as many arguments as it names; of another number the fault is Count.

-- "set" PREFIX RATE. So "44", "5" is the Set of 4, 4 to the rate 5.
abbrev pub set_of : List (List ℕ) → Result Call LineWhy
set_of (prefix ∷ rate ∷ []) =
    call_or_fault ((is_dialled prefix, Prefix) ∷ (is_rate rate, whys.Rate) ∷ []) (Set (digits_in prefix) (value_of rate))
set_of arguments = Err Count

-- "del" PREFIX. So "4a" has the fault Prefix.
abbrev pub del_of : List (List ℕ) → Result Call LineWhy
del_of (prefix ∷ []) = call_or_fault ((is_dialled prefix, Prefix) ∷ []) (Del (digits_in prefix))
del_of arguments = Err Count

-- "get" PREFIX. So "4", "5" has the fault Count.
abbrev pub get_of : List (List ℕ) → Result Call LineWhy
get_of (prefix ∷ []) = call_or_fault ((is_dialled prefix, Prefix) ∷ []) (Get (digits_in prefix))
get_of arguments = Err Count

-- "rate" NUMBER. So "4420" is the Rate of 4, 4, 2, 0.
abbrev pub rate_of : List (List ℕ) → Result Call LineWhy
rate_of (number ∷ []) = call_or_fault ((is_dialled number, Number) ∷ []) (Rate (digits_in number))
rate_of arguments = Err Count

-- "list" FROM TO LIMIT. So "4", "45", "0" has the fault Limit.
abbrev pub list_of : List (List ℕ) → Result Call LineWhy
list_of (from ∷ to ∷ limit ∷ []) =
    call_or_fault ((is_dialled from, Prefix) ∷ (is_dialled to, Prefix) ∷ (is_limit limit, whys.Limit) ∷ []) (Listing (digits_in from) (digits_in to) (value_of limit))
list_of arguments = Err Count

-- What the fields after the caller say: a word, and the arguments of its form. So "get", "44" is the Get of 4, 4, and
-- "swap", "44" has the fault Word.
abbrev pub call_of : List (List ℕ) → Result Call LineWhy
call_of [] = Err Word
call_of (word ∷ arguments) =
    if bytes_eq word (codes "set") then set_of arguments else
    if bytes_eq word (codes "del") then del_of arguments else
    if bytes_eq word (codes "get") then get_of arguments else
    if bytes_eq word (codes "rate") then rate_of arguments else
    if bytes_eq word (codes "list") then list_of arguments else Err Word

-- What a first field and those after it say. So "0" and then "get", "44" is the caller 0's Get of 4, 4, and "64" has the
-- fault Caller, whatever follows.
abbrev pub made_by : List ℕ → List (List ℕ) → Result Line LineWhy
made_by caller others = if is_caller caller then result_map_both (Made (value_of caller)) (λ why. why) (call_of others) else Err Caller

-- A line of one word. So after "cut" there is no other field, and else the fault is Count.
abbrev pub alone : Line → List (List ℕ) → Result Line LineWhy
alone line [] = Ok line
alone line (other ∷ others) = Err Count

-- What a first field and those after it say that aren't skipped: a `cut` or `dump`, or a caller's call. So "cut" is Cut, and
-- "Cut" has the fault Caller.
abbrev pub asked_by : List ℕ → List (List ℕ) → Result Line LineWhy
asked_by first others =
    if bytes_eq first (codes "cut") then alone Cut others else
    if bytes_eq first (codes "dump") then alone Dump others else made_by first others

-- What the fields of a line say: nothing where there are none or the first begins with '#', else what they ask for.
-- So "#", "0" say Skip, and "0", "get", "44" the caller 0's Get of 4, 4.
abbrev pub said_by : List (List ℕ) → Result Line LineWhy
said_by [] = Ok Skip
said_by (first ∷ others) = if slice_index first 0 == 35 then Ok Skip else asked_by first others

-- What a line of this text says, or its fault. So 1,025 bytes have the fault Long, also where the first is '#'.
abbrev pub meaning_of : List ℕ → Result Line LineWhy
meaning_of text = if nat_lt MOST_LINE (length text) then Err Long else said_by (fields text)

-- The line of this text, which is the n-th, or its fault. So "0 get 44" is the caller 0's Get of 4, 4.
abbrev pub line_of : List ℕ → ℕ → Result Line LineFault
line_of text n = result_map_both (λ line. line) (λ why. record { line = n; why = why }) (meaning_of text)

-- A call in a script is made by a caller from 0 to 63. So the caller 63's Get of 4, 4 fits, and the caller 64's doesn't.
abbrev pub LineFits : Line → Type 0
LineFits Skip = Unit {0}
LineFits (Made caller call) = caller ≤ MOST_CALLER
LineFits Cut = Unit {0}
LineFits Dump = Unit {0}

-- The code of what is wrong with a line. So that of Caller is 1, and that of Long is 8.
abbrev pub why_code : LineWhy → ℕ
why_code Caller = 1
why_code Word = 2
why_code Count = 3
why_code Prefix = 4
why_code Number = 5
why_code whys.Rate = 6
why_code whys.Limit = 7
why_code Long = 8

-- The text of a faulty line, as "line 2 fault 4".
abbrev pub fault_text : LineFault → List ℕ
fault_text fault = codes "line " ++ (decimal fault.line ++ (codes " fault " ++ decimal (why_code fault.why)))
