-- The plain spelling of a line: one of the ways to write what a line says.
use Rattle.std.specs.Prelude.{◌≤◌, ℕ, List, [], ◌++◌, codes}
use Rattle.std.specs.Fmt.{decimal}
use Rattle.palm_base.specs.Prefix.{IsPrefix}
use Rattle.palm_base.specs.Text.{digits_text}
use Rattle.palm_base.specs.declared.amount.TheConstants.{MOST_RATE, MOST_LIMIT}
use Rattle.palm_base.specs.declared.call.Call.{Call}
use Rattle.palm_base.specs.declared.call.Call.TheVariants.{Set, Del, Get, Rate, List as Listing}
use Rattle.palm_script.specs.declared.line.TheConstants.{MOST_CALLER}
use Rattle.palm_script.specs.declared.line.Line.{Line}
use Rattle.palm_script.specs.declared.line.Line.TheVariants.{Skip, Made, Cut, Dump}

-- A call: its word and its arguments, with one blank between them. Digits of prefixes and of dialled numbers stand as they
-- are, and other numbers in decimal, without leading zeros. So the Set of 4, 4 to the rate 5 is "set 44 5".
abbrev pub call_text : Call → List ℕ
call_text (Set prefix rate) = codes "set " ++ (digits_text prefix ++ (codes " " ++ decimal rate))
call_text (Del prefix) = codes "del " ++ digits_text prefix
call_text (Get prefix) = codes "get " ++ digits_text prefix
call_text (Rate number) = codes "rate " ++ digits_text number
call_text (Listing from to limit) = codes "list " ++ (digits_text from ++ (codes " " ++ (digits_text to ++ (codes " " ++ decimal limit))))

-- A line, without its ending. So the caller 63's Get of 4, 4 is "63 get 44", and Skip is the empty text.
abbrev pub plain_text : Line → List ℕ
plain_text Skip = []
plain_text (Made caller call) = decimal caller ++ (codes " " ++ call_text call)
plain_text Cut = codes "cut"
plain_text Dump = codes "dump"

-- A line with its ending. So Cut is "cut\n".
abbrev pub line_text : Line → List ℕ
line_text line = plain_text line ++ codes "\n"

-- The arguments of a call are what they may be: prefixes and numbers of 1 to 15 digits, rates up to MOST_RATE, and limits
-- from 1 to MOST_LIMIT. So those of Set 44 90 are, and those of a List with the limit 0 aren't.
abbrev pub IsSayableCall : Call → Type 0
IsSayableCall (Set prefix rate) = IsPrefix prefix × (rate ≤ MOST_RATE)
IsSayableCall (Del prefix) = IsPrefix prefix
IsSayableCall (Get prefix) = IsPrefix prefix
IsSayableCall (Rate number) = IsPrefix number
IsSayableCall (Listing from to limit) = IsPrefix from × IsPrefix to × (1 ≤ limit) × (limit ≤ MOST_LIMIT)

-- A script can say this: the caller of a call is at most MOST_CALLER, and its arguments are what they may be.
-- So it can say the caller 63's Get of 4, 4, and can't say the caller 64's.
abbrev pub IsSayable : Line → Type 0
IsSayable Skip = Unit {0}
IsSayable (Made caller call) = (caller ≤ MOST_CALLER) × IsSayableCall call
IsSayable Cut = Unit {0}
IsSayable Dump = Unit {0}
