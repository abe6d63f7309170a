-- Rows that rise between two keys are a table, and a table rises between any two keys that its rows lie between.
use Rattle.std.proofs.Common.{ℕ, suc, ◌+◌, ◌<◌, ◌≤◌, List, [], ◌∷◌, arith}
use Rattle.std.specs.List.{AllByRecursion}
use Rattle.palm_base.specs.Table.{row_key, IsTable}
use Rattle.palm_base.specs.Lawful.{RowIsIn, Rising}
use Rattle.palm_base.proofs.Every.{every_weaker}
use Rattle.palm_base.proofs.Tables.{Below}
use Rattle.palm_base.proofs.RisingRows.{rising_rest, rising_range, rising_cons}
use Rattle.palm_base.specs.declared.row.Row.{Row}

pub rising_is_table : (l h : ℕ) (rows : List Row) → Rising l h rows → IsTable rows
rising_is_table l h [] rise = tt
rising_is_table l h (row ∷ rows) rise =
    let rest = rising_rest l h row rows rise in
    let above : Below (row_key row) rows =
    every_weaker (RowIsIn (suc (row_key row)) h) (λ later. row_key row < row_key later)
    (λ later inside. let least = inside.0 in omega arith) rows (rising_range (suc (row_key row)) h rows rest) in
    (above, rising_is_table (suc (row_key row)) h rows rest)

-- A key above those of all rows.
pub key_bound : List Row → ℕ
key_bound [] = 0
key_bound (row ∷ rows) = suc (row_key row) + key_bound rows

table_rises_from : (l h : ℕ) (rows : List Row) → IsTable rows → AllByRecursion (λ row. l ≤ row_key row) rows → key_bound rows ≤ h → Rising l h rows
unfolding key_bound
table_rises_from l h [] table from bound = tt
table_rises_from l h (row ∷ rows) table from bound =
    let least = from.0 in
    rising_cons l h row rows (least, omega arith) (table_rises_from (suc (row_key row)) h rows table.1 table.0 (omega arith))

-- A table rises from 0 to such a key.
pub table_rises : (rows : List Row) → IsTable rows → Rising 0 (key_bound rows) rows
table_rises rows table = table_rises_from 0 (key_bound rows) rows table (zeros rows) (omega arith)
  where
    zeros : (rows : List Row) → AllByRecursion (λ row. 0 ≤ row_key row) rows
    zeros [] = tt
    zeros (row ∷ rows) = (omega arith, zeros rows)
