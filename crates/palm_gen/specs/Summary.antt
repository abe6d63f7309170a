-- The summary of a run of generated calls: what its replies were, and the text that tells it.
use Rattle.std.specs.Prelude.{ℕ, Bool, true, false, if◌then◌else◌, List, ◌++◌, sum_by, codes}
use Rattle.std.specs.Fmt.{decimal}
use Rattle.palm_base.specs.declared.call.Reply.{Reply}
use Rattle.palm_base.specs.declared.call.Reply.TheVariants.{Value, Hit}

-- ---- what replies were

-- What contracts see of a tally: how many replies there were, how many of them were a Hit, and the sum of their rates.
-- So after Value 5, Hit of 44 at 7 and Absent they are 3, 1 and 12.
pub record Counts : Type 0 where
  pub calls : ℕ
  pub hits : ℕ
  pub sum : ℕ

-- So Hit of 44 at 5 is one, and Value 5 isn't.
abbrev pub is_hit : Reply → Bool
is_hit (Hit row) = true
is_hit _ = false

-- The rate in a Value or a Hit, and 0 of any other reply. So that in Value 5 is 5, and that in Was 5 is 0.
abbrev pub rate_in : Reply → ℕ
rate_in (Value rate) = rate
rate_in (Hit row) = row.rate
rate_in _ = 0

-- How many replies are a Hit. So of Value 5, Hit of 44 at 7, Absent there is 1.
abbrev pub hits_in : List Reply → ℕ
hits_in replies = sum_by (λ reply. if is_hit reply then 1 else 0) replies

-- The sum of the rates in replies. So that of Value 5, Hit of 44 at 7, Absent is 12.
abbrev pub sum_in : List Reply → ℕ
sum_in replies = sum_by rate_in replies

-- ---- how that is told

-- A line of a summary: a name, a blank and a number. So that of "hits" and 7 is "hits 7".
abbrev pub summary_line : List ℕ → ℕ → List ℕ
summary_line name number = name ++ (codes " " ++ (decimal number ++ codes "\n"))

-- The summary of so many calls, of which so many had a Hit, with this sum of rates, that left a table of so many rows in a tree
-- of so many levels. So that of 3 calls, 2 rows, 1 level, 1 Hit and the sum 12 is the lines "calls 3", "rows 2", "levels 1",
-- "hits 1" and "sum 12".
abbrev pub summary_text : ℕ → ℕ → ℕ → ℕ → ℕ → List ℕ
summary_text calls rows levels hits sum =
    summary_line (codes "calls") calls
    ++ (summary_line (codes "rows") rows
    ++ (summary_line (codes "levels") levels
    ++ (summary_line (codes "hits") hits
    ++ summary_line (codes "sum") sum)))
