-- Worked examples of lines, scripts and transcripts, which the checker computes.
use Rattle.std.proofs.Common.{◌≡◌, true, false, [], ◌∷◌, refl}
use Rattle.std.specs.Prelude.{codes, None, Some, Ok, Err}
use Rattle.std.specs.Fmt.{digits}
use Rattle.palm_base.specs.declared.call.Call.TheVariants.{Set, Get, List as Listing}
use Rattle.palm_base.specs.Numbers.{number_of}
use Rattle.palm_script.specs.Line.{fields, line_of, fault_text}
use Rattle.palm_script.specs.Script.{lines_of, script_of, entries_from}
use Rattle.palm_script.specs.Spelling.{plain_text, line_text}
use Rattle.palm_script.specs.Transcript.{cut_by, straight, final_of}
use Rattle.palm_script.specs.declared.dump.DumpWhen.TheVariants.{Never}
use Rattle.palm_script.specs.declared.line.Line.TheVariants.{Skip, Made, Cut}
use Rattle.palm_script.specs.declared.line.LineWhy.TheVariants.{Caller, Count, Prefix}

-- ---- one line

-- Blanks and tabs stand between fields, in any number.
fields-spread : fields (codes " 0\tget  44 ") ≡ codes "0" ∷ codes "get" ∷ codes "44" ∷ []
fields-spread = refl

fields-none : fields (codes " \t ") ≡ []
fields-none = refl

-- Leading zeros are allowed, and a sign isn't.
number-007 : number_of (codes "007") ≡ Some 7
number-007 = refl

number-signed : number_of (codes "+7") ≡ None
number-signed = refl

line-set : line_of (codes "63 set 44 5") 1 ≡ Ok (Made 63 (Set (4 ∷ 4 ∷ []) 5))
line-set = refl

line-list : line_of (codes "0 list 4 045 0010") 1 ≡ Ok (Made 0 (Listing (4 ∷ []) (0 ∷ 4 ∷ 5 ∷ []) 10))
line-list = refl

line-skipped : line_of (codes " # 0 get 44") 1 ≡ Ok Skip
line-skipped = refl

-- There are 64 callers.
line-caller : line_of (codes "64 get 44") 7 ≡ Err (record { line = 7; why = Caller })
line-caller = refl

-- A field too few comes before a bad prefix, and that before the rate on its right.
line-count : line_of (codes "0 set 4a") 7 ≡ Err (record { line = 7; why = Count })
line-count = refl

line-leftmost : line_of (codes "0 set 4a -1") 7 ≡ Err (record { line = 7; why = Prefix })
line-leftmost = refl

fault-line_2 : fault_text (record { line = 2; why = Prefix }) ≡ codes "line 2 fault 4"
unfolding digits
fault-line_2 = refl

-- ---- the plain spelling of a line

plain-set : plain_text (Made 63 (Set (4 ∷ 4 ∷ []) 5)) ≡ codes "63 set 44 5"
unfolding digits
plain-set = refl

-- Zeros at the front of a prefix are digits of it.
plain-list : plain_text (Made 0 (Listing (4 ∷ []) (0 ∷ 4 ∷ 5 ∷ []) 10)) ≡ codes "0 list 4 045 10"
unfolding digits
plain-list = refl

line-cut : line_text Cut ≡ codes "cut\n"
line-cut = refl

-- A skipped line is an empty one.
line-empty : line_text Skip ≡ codes "\n"
line-empty = refl

-- ---- scripts

-- What follows the last line feed is a line where the text is whole.
lines-whole : lines_of (codes "a\r\n\nb") true ≡ codes "a" ∷ [] ∷ codes "b" ∷ []
lines-whole = refl

lines-cut_short : lines_of (codes "a\r\n\nb") false ≡ codes "a" ∷ [] ∷ []
lines-cut_short = refl

-- The first faulty line ends what a script says, and skipped lines count.
script-fault : script_of (codes "0 get 4\n\nget 4\n0 get 5\n") true ≡ record { items = Made 0 (Get (4 ∷ [])) ∷ []; fault = Some (record { line = 3; why = Caller }) }
script-fault = refl

-- Places count a caller's own calls.
entries-placed : entries_from [] (Made 3 (Get (4 ∷ [])) ∷ Made 0 (Get (4 ∷ [])) ∷ Made 3 (Get (5 ∷ [])) ∷ [])
    ≡ record { caller = 3; place = 0; call = Get (4 ∷ []) } ∷ record { caller = 0; place = 0; call = Get (4 ∷ []) } ∷ record { caller = 3; place = 1; call = Get (5 ∷ []) } ∷ []
entries-placed = refl

-- ---- transcripts

cut-ten : cut_by 4 10 ≡ 4 ∷ 4 ∷ 2 ∷ []
cut-ten = refl

cut-eight : cut_by 4 8 ≡ 4 ∷ 4 ∷ []
cut-eight = refl

-- Three calls in batches of two.
transcript : final_of Never (straight (script_of (codes "0 set 44 5\n7 get 44\n7 del 44\n") true).items 2) ≡ codes "0 0 new\n1 7 value 5\n= 2\n2 7 gone 5\n= 1\nend 3 0\n"
unfolding digits
transcript = refl

-- A script that asks for nothing has no batch.
transcript-empty : final_of Never (straight [] 2) ≡ codes "end 0 0\n"
unfolding digits
transcript-empty = refl
