-- Rows of which each is below the next are a table.
use Rattle.std.proofs.Common.{add-one, ℕ, suc, ◌+◌, ◌<◌, List, [], ◌∷◌, length, get_or, arith}
use Rattle.std.specs.List.{AllByRecursion}
use Rattle.palm_base.specs.Table.{row_key, IsTable}
use Rattle.palm_base.specs.declared.row.Row.{Row}

abbrev Rise : List Row → Type 0
Rise rows = (k : ℕ) (d : Row) → suc k < length rows → row_key (get_or rows k d) < row_key (get_or rows (suc k) d)

later : (row : Row) (rows : List Row) → Rise (row ∷ rows) → Rise rows
later row rows rise = λ k d inside. rise (suc k) d (omega arith)

all_above : (low : ℕ) (row : Row) (rows : List Row) → Rise (row ∷ rows) → low < row_key row → AllByRecursion (λ (r : Row). low < row_key r) (row ∷ rows)
all_above low row [] rise first = (first, tt)
all_above low row (next ∷ rows) rise first =
    let second : row_key row < row_key next = rise 0 row (omega arith) in
    (first, all_above low next rows (later row (next ∷ rows) rise) (omega arith))

table_of_rise : (rows : List Row) → Rise rows → IsTable rows
table_of_rise [] rise = tt
table_of_rise (row ∷ []) rise = (tt, tt)
table_of_rise (row ∷ next ∷ rows) rise =
    let rest : Rise (next ∷ rows) = later row (next ∷ rows) rise in
    (all_above (row_key row) next rows rest (rise 0 row (omega arith)), table_of_rise (next ∷ rows) rest)

pub table_of_rising : (rows : List Row) → ((k : ℕ) (d : Row) → k + 1 < length rows → row_key (get_or rows k d) < row_key (get_or rows (k + 1) d)) → IsTable rows
table_of_rising rows rise = table_of_rise rows (λ k d inside. rw add-one at (rise k d (omega arith)))
