-- What the leaves of a tree answer: each on the rows of its own range.
use Rattle.std.specs.Prelude.{ℕ, ◌==◌, nat_lt, if◌then◌else◌, List, [], ◌∷◌, filter}
use Rattle.std.proofs.Common.{suc}
use Rattle.palm_base.specs.Table.{row_key}
use Rattle.palm_base.specs.declared.row.Row.{Row}
use Rattle.palm_route.specs.declared.part.Part.{Part}
use Rattle.palm_leaf.specs.Answers.{answer_of, after_part}
use Rattle.palm_leaf.specs.declared.answer.PartAnswer.{PartAnswer}

-- The number of the range in which a key stands, of ranges that begin, past the first, at these lows.
-- So over the lows 20 and 30 that of 10 is 0, that of 20 and of 25 is 1, and that of 30 is 2.
abbrev pub range_of : List ℕ → ℕ → ℕ
range_of [] k = 0
range_of (low ∷ lows) k = if nat_lt k low then 0 else suc (range_of lows k)

-- The rows in the range of a key. So over the low 20, of the rows with the keys 10, 20 and 25 those in the range of 22 are
-- the last two.
abbrev pub rows_in_range : List ℕ → ℕ → List Row → List Row
rows_in_range lows k rows = filter (λ row. range_of lows (row_key row) == range_of lows k) rows

-- What parts are answered one after another, each on the rows in the range of its key, as the parts before it leave them.
-- So over the low 20, after Set 10 1 and Set 25 5 on no rows, a List's part by 20 finds the row of 25 alone.
abbrev pub ranged_answers : List ℕ → List Row → List Part → List PartAnswer
ranged_answers lows rows [] = []
ranged_answers lows rows (part ∷ parts) =
    record { part = part; answer = answer_of (rows_in_range lows part.key rows) part } ∷ ranged_answers lows (after_part rows part) parts
