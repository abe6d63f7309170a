-- What a status is to the outside: a number, and a line on the error stream.
use Rattle.std.specs.Prelude.{ℕ, Bool, true, false, List, [], ◌++◌, codes}
use Rattle.palm_deck.specs.Deck.{fault_text as deck_fault_text}
use Rattle.palm_deck.specs.declared.deck.DeckFault.TheVariants.{Bad as BadDeck}
use Rattle.palm_deck.specs.declared.deck.DeckWhy.{DeckWhy}
use Rattle.palm_script.specs.Line.{fault_text}
use Rattle.palm_script.specs.declared.line.LineFault.{LineFault}
use Rattle.palm_cli.specs.declared.status.Status.{Status}
use Rattle.palm_cli.specs.declared.status.Status.TheVariants.{Done, Usage, BadLine, ReadFault, WriteFault, NoMemory, TooLong, BadRow}

-- The exit status. So that of Usage is 2.
abbrev pub code_of : Status → ℕ
code_of Done = 0
code_of Usage = 2
code_of (BadLine fault) = 3
code_of ReadFault = 4
code_of WriteFault = 5
code_of NoMemory = 6
code_of TooLong = 7
code_of (BadRow row why) = 8

-- All went well. So it is true of Done, and not of NoMemory.
abbrev pub is_done : Status → Bool
is_done Done = true
is_done _ = false

-- The status names a fault of the input. So its line is made anew each time, which may want memory.
abbrev pub names_fault : Status → Bool
names_fault (BadLine fault) = true
names_fault (BadRow row why) = true
names_fault _ = false

-- A line of the program about itself. So that of "usage" is "palm: usage".
abbrev pub own_line : List ℕ → List ℕ
own_line text = codes "palm: " ++ (text ++ codes "\n")

-- The line of a script's faulty line, as "palm: line 2 fault 2".
abbrev pub line_told : LineFault → List ℕ
line_told fault = own_line (fault_text fault)

-- The line of a deck's faulty record, as "palm: row 2 fault 4".
abbrev pub row_told : ℕ → DeckWhy → List ℕ
row_told row why = own_line (deck_fault_text (BadDeck row why))

-- The line on the error stream, which is empty where all went well. So that of TooLong is "palm: input too long".
abbrev pub status_text : Status → List ℕ
status_text Done = []
status_text Usage = codes "palm: usage\n"
status_text (BadLine fault) = line_told fault
status_text ReadFault = codes "palm: read fault\n"
status_text WriteFault = codes "palm: write fault\n"
status_text NoMemory = codes "palm: no memory\n"
status_text TooLong = codes "palm: input too long\n"
status_text (BadRow row why) = row_told row why
