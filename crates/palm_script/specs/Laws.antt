-- The laws of scripts and runs, which the functions of the module of laws carry.
use Rattle.std.specs.Prelude.{◌≡◌, ◌≤◌, ℕ, Bool, false, List, [], ◌++◌, length, IsSome, Ok}
use Rattle.std.specs.List.{AllByRecursion}
use Rattle.palm_base.specs.History.{entries_of, numbered, IsCutting}
use Rattle.palm_base.specs.declared.call.Entry.{Entry}
use Rattle.palm_script.specs.Line.{line_of, LineFits}
use Rattle.palm_script.specs.Script.{script_of, entries_from, calls_by}
use Rattle.palm_script.specs.Spelling.{plain_text, IsSayable}
use Rattle.palm_script.specs.Storms.{IsStormy}
use Rattle.palm_script.specs.Transcript.{Section, cut_by, history_of, straight, text_of}
use Rattle.palm_script.specs.declared.dump.DumpWhen.{DumpWhen}
use Rattle.palm_script.specs.declared.line.Line.{Line}

-- Where the lines of a text hold a faulty one, every longer text says the same.
-- So "0 get 4x\n" has the fault Prefix in line 1, and with "0 get 4\n" behind it too.
abbrev pub FaultsStand : Type 0
FaultsStand = (text more : List ℕ) (whole : Bool) → IsSome (script_of text false).fault → script_of (text ++ more) whole ≡ script_of text false

-- The plain spelling of a line that a script can say reads as that line, whatever its number in the script.
-- So "63 get 44", that of the caller 63's Get of 4, 4, reads as this, be it line 1 or line 9.
abbrev pub LinesReadBack : Type 0
LinesReadBack = (line : Line) (n : ℕ) → IsSayable line → line_of (plain_text line) n ≡ Ok line

-- A caller's entries are its calls, in the order of the lines, numbered from 0.
-- So where the caller 3 makes x and z, and the caller 0 makes y between them, those of 3 are (3, 0, x), (3, 1, z).
abbrev pub StraightKeepsOrder : Type 0
StraightKeepsOrder = (items : List Line) (caller : ℕ) → entries_of caller (entries_from [] items) ≡ numbered caller 0 (calls_by caller items)

-- Batches of `most` calls, and what is left, are a cutting, and none is longer than `most`.
-- So ten entries in batches of 4 are cut 4, 4, 2.
abbrev pub CutByCuts : Type 0
CutByCuts =
    (entries : List Entry) (most : ℕ) → 1 ≤ most
    → IsCutting entries (cut_by most (length entries)) × AllByRecursion (λ n. n ≤ most) (cut_by most (length entries))

-- The sections of a script's run in the order of its lines have its entries, whole and in order.
-- So where a `cut` stands behind the second of three calls, sections of two and of one make the three.
abbrev pub SectionsJoin : Type 0
SectionsJoin = (items : List Line) (most : ℕ) → history_of (straight items most) ≡ entries_from [] items

-- The run in the order of the lines is stormy.
-- So that of five calls by the caller 0 in batches of 2, one section cut 2, 2, 1, is.
abbrev pub StraightIsStormy : Type 0
StraightIsStormy = (items : List Line) (most : ℕ) → 1 ≤ most → AllByRecursion LineFits items → IsStormy items most (straight items most)

-- No two stormy runs of one script have one transcript.
-- So two calls in one batch end with "= 2", and one by one each has "= 1" behind it.
abbrev pub TextShowsRun : Type 0
TextShowsRun =
    (items : List Line) (most : ℕ) (dump : DumpWhen) (run other : List Section)
    → IsStormy items most run → IsStormy items most other → text_of dump run ≡ text_of dump other → run ≡ other
