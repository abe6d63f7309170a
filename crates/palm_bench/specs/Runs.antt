-- Runs of calls: the table that they leave, and the sum over their replies.
use Rattle.std.specs.Prelude.{◌≡◌, ℕ, ◌+◌, ◌*◌, ◌%◌, ◌^◌, List, [], ◌∷◌, length}
use Rattle.std.specs.List.{AllByRecursion}
use Rattle.palm_base.specs.History.{replies_to, table_after}
use Rattle.palm_base.specs.Lawful.{IsLawful}
use Rattle.palm_base.specs.Tree.{Tree, levels_of, rows_of}
use Rattle.palm_base.specs.declared.call.Entry.{Entry}
use Rattle.palm_base.specs.declared.call.Reply.{Reply}
use Rattle.palm_base.specs.declared.call.Reply.TheVariants.{New, Was, Gone, Absent, Value, Hit, Rows}
use Rattle.palm_base.specs.declared.row.Row.{Row}
use Rattle.palm_bench.specs.declared.feed.Kind.{Kind}
use Rattle.palm_bench.specs.declared.feed.Kind.TheVariants.{Load, Sets, Edits, Gets, Rates, Nested, Narrow, Wide, Looks, Half}
use Rattle.palm_bench.specs.Kinds.{IsOfKind}

-- A reply as a number: its word's, and eight times its rate. So Value 5 is 45, and Hit of 44 at 5 is 46.
abbrev pub reply_number : Reply → ℕ
reply_number New = 1
reply_number (Was rate) = 2 + 8 * rate
reply_number (Gone rate) = 3 + 8 * rate
reply_number Absent = 4
reply_number (Value rate) = 5 + 8 * rate
reply_number (Hit row) = 6 + 8 * row.rate
reply_number (Rows rows) = 7

-- The sum with a reply more. So New makes 1 of 0, and Absent makes 35 of 1.
abbrev pub with_reply : ℕ → Reply → ℕ
with_reply sum reply = (sum * 31 + reply_number reply) % 2 ^ 64

-- The sum with these replies more, one after another. So New, Absent make 35 of 0.
abbrev pub with_replies : ℕ → List Reply → ℕ
with_replies sum [] = sum
with_replies sum (reply ∷ replies) = with_replies (with_reply sum reply) replies

-- There are so many calls of a kind that leave the table `after` of `before`, and their replies make the sum `total` of `sum`.
-- So one call of Load, Set 44 5, leaves of no row and the sum 0 the row 44 5 and the sum 1.
pub record HasRun (kind : Kind) (count : ℕ) (before after : List Row) (sum total : ℕ) : Type 0 where
  pub calls : List Entry
  pub many : length calls ≡ count
  pub kinds : AllByRecursion (λ entry. IsOfKind kind entry.call) calls
  pub rows-are : after ≡ table_after before calls
  pub total-is : total ≡ with_replies sum (replies_to before calls)

-- The empty table was loaded by so many calls, and as many of the kind were run on it then.
-- So where Set 44 5 loaded and Get 44 ran, the count is 1, the row 44 5 is left, and the sum is 76.
pub record HasLoadedAndRun (kind : Kind) (count : ℕ) (rows : List Row) (sum : ℕ) : Type 0 where
  pub loaded : List Row
  pub so_far : ℕ
  pub load : HasRun Load count [] loaded 0 so_far
  pub run : HasRun kind count loaded rows so_far sum

-- What a run of a kind leaves: a load the table that it loads, and each other kind one that was loaded before.
-- So the load Set 44 5 leaves the row 44 5 and the sum 1, and with Get 44 behind it a run of Gets leaves this row and 76.
abbrev pub Leaves : Kind → ℕ → List Row → ℕ → Type 0
Leaves Load count rows sum = HasRun Load count [] rows 0 sum
Leaves Sets count rows sum = HasLoadedAndRun Sets count rows sum
Leaves Edits count rows sum = HasLoadedAndRun Edits count rows sum
Leaves Gets count rows sum = HasLoadedAndRun Gets count rows sum
Leaves Rates count rows sum = HasLoadedAndRun Rates count rows sum
Leaves Nested count rows sum = HasLoadedAndRun Nested count rows sum
Leaves Narrow count rows sum = HasLoadedAndRun Narrow count rows sum
Leaves Wide count rows sum = HasLoadedAndRun Wide count rows sum
Leaves Looks count rows sum = HasLoadedAndRun Looks count rows sum
Leaves Half count rows sum = HasLoadedAndRun Half count rows sum

-- What is told of a run: the rows and the levels of the lawful tree that it leaves, and the sum over its replies.
-- So of the load Set 44 5 these are 1 row, 1 level and the sum 1.
pub record IsOutcome (kind : Kind) (count rows levels sum : ℕ) : Type 0 where
  pub tree : Tree
  pub lawful : IsLawful tree
  pub rows-are : rows ≡ length (rows_of tree)
  pub levels-are : levels ≡ levels_of tree
  pub leaves : Leaves kind count (rows_of tree) sum
