-- Runs of a script, and the lines of their transcript.
use Rattle.std.specs.Prelude.{ℕ, ◌+◌, ◌/◌, ◌%◌, ◌==◌, take, drop, replicate, Bool, true, false, if◌then◌else◌, List, [], ◌∷◌, ◌++◌, length, codes}
use Rattle.std.specs.List.{flat_map}
use Rattle.std.specs.Fmt.{decimal}
use Rattle.std.proofs.Common.{zero}
use Rattle.palm_base.specs.History.{calls_of, replies_to, table_after}
use Rattle.palm_base.specs.Pass.{batch_tree, tree_after}
use Rattle.palm_base.specs.Shape.{shape_text}
use Rattle.palm_base.specs.Text.{row_text, rows_text}
use Rattle.palm_base.specs.Tree.{Tree, rows_of}
use Rattle.palm_base.specs.declared.row.Row.{Row}
use Rattle.palm_base.specs.declared.call.Entry.{Entry}
use Rattle.palm_base.specs.declared.call.Reply.{Reply}
use Rattle.palm_base.specs.declared.call.Reply.TheVariants.{New, Was, Gone, Absent, Value, Hit, Rows}
use Rattle.palm_script.specs.Script.{entries_from, ends_from}
use Rattle.palm_script.specs.declared.line.Line.{Line}
use Rattle.palm_script.specs.declared.script.SectionEnd.{SectionEnd}
use Rattle.palm_script.specs.declared.dump.DumpWhen.{DumpWhen}
use Rattle.palm_script.specs.declared.dump.DumpWhen.TheVariants.{Never, AtEnd, Always}

-- ---- one call, and one batch

-- What a call was answered, as its line says it. So Value 5 is "value 5".
abbrev pub answer_text : Reply → List ℕ
answer_text New = codes "new"
answer_text (Was rate) = codes "was " ++ decimal rate
answer_text (Gone rate) = codes "gone " ++ decimal rate
answer_text Absent = codes "absent"
answer_text (Value rate) = codes "value " ++ decimal rate
answer_text (Hit row) = row_text row
answer_text (Rows rows) = codes "rows " ++ rows_text rows

-- The line of a call: its number, its caller, and what it was answered. So the caller 3's third call may be "2 3 new".
abbrev pub reply_line : ℕ → ℕ → Reply → List ℕ
reply_line n caller reply = decimal n ++ (codes " " ++ (decimal caller ++ (codes " " ++ (answer_text reply ++ codes "\n"))))

-- The line after a batch of k calls. So for 4 it is "= 4".
abbrev pub batch_line : ℕ → List ℕ
batch_line k = codes "= " ++ (decimal k ++ codes "\n")

-- The last line: how many calls were made, and how many rows the table has. So for 2 calls and 1 row it is "end 2 1".
abbrev pub end_line : ℕ → ℕ → List ℕ
end_line calls rows = codes "end " ++ (decimal calls ++ (codes " " ++ (decimal rows ++ codes "\n")))

-- The lines of these calls with these replies, of which the first has the number n.
-- So two calls of the caller 3 that are answered New and Value 5 have from 7 on "7 3 new" and "8 3 value 5".
abbrev pub reply_lines : ℕ → List Entry → List Reply → List ℕ
reply_lines n (entry ∷ entries) (reply ∷ replies) = reply_line n entry.caller reply ++ reply_lines (n + 1) entries replies
reply_lines n [] replies = []
reply_lines n (entry ∷ entries) [] = []

-- ---- how far a transcript has come

-- How many calls it has listed, and the table and the tree that they leave.
-- So after Set 44 5 and Get 44 there are 2 calls, the row 44 5, and the root leaf of this row.
pub record Progress : Type 0 where
  pub calls : ℕ
  pub rows : List Row
  pub tree : Tree

-- A tree that so many calls have left, with its rows as the table.
-- So 2 calls that leave the root leaf of 44 at 5 leave the table of this row.
abbrev pub come_to : ℕ → Tree → Progress
come_to calls tree = record { calls = calls; rows = rows_of tree; tree = tree }

-- Where every transcript begins: with no call, and the empty tree. So it has 0 calls, no row, and the tree (0, []).
abbrev pub begin : Progress
begin = come_to 0 (zero, [])

-- After one more batch. So after 2 calls and a batch of 3 there are 5, and after Set 44 5 from `begin` on the one row 44 5.
abbrev pub after_batch : Progress → List Entry → Progress
after_batch at batch = record {
  calls = at.calls + length batch;
  rows = table_after at.rows batch;
  tree = batch_tree at.tree (calls_of batch);
}

-- ---- runs

-- A section of a run: its history, the history's cutting in batches, and whether the tree is dumped after it.
-- So two calls, a `dump` behind them, may have the cutting 1, 1 or 2, and dumps is true.
pub record Section : Type 0 where
  pub history : List Entry
  pub cutting : List ℕ
  pub dumps : Bool

-- The history of a run: those of its sections, in order.
-- So that of sections of (0, 0, x) and of (3, 0, y), (0, 1, z) is (0, 0, x), (3, 0, y), (0, 1, z).
abbrev pub history_of : List Section → List Entry
history_of run = flat_map (λ section. section.history) run

-- After one more section. So after 2 calls and a section of 3 there are 5, in whatever batches.
abbrev pub after_section : Progress → Section → Progress
after_section at section = record {
  calls = at.calls + length section.history;
  rows = table_after at.rows section.history;
  tree = tree_after at.tree section.history section.cutting;
}

-- After some more sections. So after 2 calls and sections of 3 and 4 there are 9.
abbrev pub after_sections : Progress → List Section → Progress
after_sections at [] = at
after_sections at (section ∷ sections) = after_sections (after_section at section) sections

-- Where a run comes to. So that of sections of 3 and 4 calls comes to 7, and one of no sections to `begin`.
abbrev pub after_run : List Section → Progress
after_run run = after_sections begin run

-- Batches of `most` calls, and what is left. So ten calls in batches of four are cut 4, 4, 2.
abbrev pub cut_by : ℕ → ℕ → List ℕ
cut_by most count = replicate (count / most) most ++ (if count % most == 0 then [] else (count % most) ∷ [])

-- A section in batches of `most` calls. So five calls in batches of 2 are cut 2, 2, 1.
abbrev pub section_by : ℕ → List Entry → Bool → Section
section_by most history dumps = record { history = history; cutting = cut_by most (length history); dumps = dumps }

-- The sections that entries have by their ends. What stands behind the last end is a section too, of no calls perhaps. So of
-- the entries x, y, z the end after two makes the sections x, y and z.
abbrev pub sections_by : ℕ → List Entry → List SectionEnd → List Section
sections_by most entries [] = section_by most entries false ∷ []
sections_by most entries (end ∷ ends) = section_by most (take end.calls entries) end.dumps ∷ sections_by most (drop end.calls entries) ends

-- The run of items in the order of their lines, in batches of `most` calls.
-- So three calls and then a `cut`, in batches of 2, are a section cut 2, 1 and one of no calls.
abbrev pub straight : List Line → ℕ → List Section
straight items most = sections_by most (entries_from [] items) (ends_from 0 items)

-- ---- transcripts

-- Whether the tree is dumped after each batch. So it is with Always, and isn't with AtEnd or Never.
abbrev pub dumps_batches : DumpWhen → Bool
dumps_batches Never = false
dumps_batches AtEnd = false
dumps_batches Always = true

-- Whether the tree is dumped before the last line. So it is with AtEnd, and isn't with Always or Never.
abbrev pub dumps_end : DumpWhen → Bool
dumps_end Never = false
dumps_end AtEnd = true
dumps_end Always = false

-- The tree's shape, where it is dumped. So that of the empty tree is "tree 1 0" and "leaf 0" where it is, and else empty.
abbrev pub dump_text : Bool → Tree → List ℕ
dump_text dumps tree = if dumps then shape_text tree else []

-- A batch: the lines of its calls, the line after it, and perhaps the tree that it leaves.
-- So from `begin` on that of the caller 0's Set 1 1 is "0 0 new" and "= 1", and with Always "tree 1 1" and "leaf 1 1 1" too.
abbrev pub batch_text : DumpWhen → Progress → List Entry → List ℕ
batch_text dump at batch =
    reply_lines at.calls batch (replies_to at.rows batch)
    ++ (batch_line (length batch) ++ dump_text (dumps_batches dump) (batch_tree at.tree (calls_of batch)))

-- A history, cut in batches of these lengths.
-- So from `begin` on, with Never, the caller 0's Set 1 1 and Get 1 cut 1, 1 are "0 0 new", "= 1", "1 0 value 1", "= 1".
abbrev pub batches_text : DumpWhen → Progress → List Entry → List ℕ → List ℕ
batches_text dump at entries [] = []
batches_text dump at entries (k ∷ lengths) =
    batch_text dump at (take k entries) ++ batches_text dump (after_batch at (take k entries)) (drop k entries) lengths

-- A section: its batches, and perhaps the tree that they leave.
-- So from `begin` on, with Never, that of the caller 0's Set 1 1 in one batch, with a `dump` behind it, is "0 0 new", "= 1",
-- "tree 1 1" and "leaf 1 1 1".
abbrev pub section_text : DumpWhen → Progress → Section → List ℕ
section_text dump at section =
    batches_text dump at section.history section.cutting
    ++ dump_text section.dumps (tree_after at.tree section.history section.cutting)

-- Sections, one after another. So from `begin` on, where the first has two calls, the first call of the second has the number 2.
abbrev pub sections_text : DumpWhen → Progress → List Section → List ℕ
sections_text dump at [] = []
sections_text dump at (section ∷ sections) = section_text dump at section ++ sections_text dump (after_section at section) sections

-- The transcript of a run, without what stands at its end.
-- So that of the caller 0's Set 1 1 in one batch, with Never and no `dump`, is "0 0 new" and "= 1".
abbrev pub text_of : DumpWhen → List Section → List ℕ
text_of dump run = sections_text dump begin run

-- What stands at the end of a transcript that has come so far: perhaps the tree, and the last line.
-- So after 2 calls that leave 1 row it is "end 2 1" with Never, and with AtEnd the tree stands before it.
abbrev pub ending : DumpWhen → Progress → List ℕ
ending dump at = dump_text (dumps_end dump) at.tree ++ end_line at.calls (length at.rows)

-- The whole transcript of a run.
-- So that of the caller 0's Set 1 1 in one batch, with Never and no `dump`, is "0 0 new", "= 1" and "end 1 1".
abbrev pub final_of : DumpWhen → List Section → List ℕ
final_of dump run = text_of dump run ++ ending dump (after_run run)
