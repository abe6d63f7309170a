-- Tables: the three cases of putting a row in, that each call leaves a table, and calls one after another.
use Rattle.std.proofs.Common.{◌≡◌, ℕ, zero, suc, ◌<◌, ◌≤◌, Bool, true, false, cond, not, ◌==◌, List, [], ◌∷◌, ◌++◌, filter, take, drop, refl, arith, ◌⊎◌, inl, inr}
use Rattle.std.specs.List.{AllByRecursion}
use Rattle.std.proofs.lemmas.Bool.{cases_order, lt-ltb, le-ltb, eq-eqb, ne_eqb}
use Rattle.palm_base.specs.Key.{key}
use Rattle.palm_base.specs.Table.{row_key, put, after, after_all, IsTable}
use Rattle.palm_base.specs.Laws.{CallsKeepTables}
use Rattle.palm_base.proofs.Every.{every_weaker, every_filter, every_take}
use Rattle.palm_base.specs.declared.row.Row.{Row}
use Rattle.palm_base.specs.declared.call.Call.{Call}
use Rattle.palm_base.specs.declared.call.Call.TheVariants.{Set, Del, Get, Rate, List as Listing}

-- One row's key is another's, or lies below it, or above it.
abbrev pub Order : Row → Row → Type 0
Order one other = (row_key one ≡ row_key other) ⊎ ((row_key one < row_key other) ⊎ (row_key other < row_key one))

-- The key lies below those of all rows.
abbrev pub Below : ℕ → List Row → Type 0
Below k rows = AllByRecursion (λ later. k < row_key later) rows

pub put_before : (new row : Row) (rows : List Row) → row_key new < row_key row → put new (row ∷ rows) ≡ new ∷ row ∷ rows
put_before new row rows h = rw (lt-ltb (row_key new) (row_key row) h) refl

pub put_at : (new row : Row) (rows : List Row) → row_key new ≡ row_key row → put new (row ∷ rows) ≡ new ∷ rows
put_at new row rows h = rw (le-ltb (row_key new) (row_key row) (omega arith), eq-eqb (row_key new) (row_key row) h) refl

pub put_past : (new row : Row) (rows : List Row) → row_key row < row_key new → put new (row ∷ rows) ≡ row ∷ put new rows
put_past new row rows h = rw (le-ltb (row_key new) (row_key row) (omega arith), ne_eqb (row_key new) (row_key row) (λ e. omega arith)) refl

pub below_all : (j k : ℕ) (rows : List Row) → j ≤ k → Below k rows → Below j rows
below_all j k rows h = every_weaker (λ later. k < row_key later) (λ later. j < row_key later) (λ row below. omega arith) rows

-- What the row that is put in has, and all others have, all have after.
pub every_put : (P : Row → Type 0) (new : Row) (rows : List Row) → P new → AllByRecursion P rows → AllByRecursion P (put new rows)
every_put P new [] one all = (one, tt)
every_put P new (row ∷ rows) one all = by (every_put P new rows one all.1) (cases_order (row_key new) (row_key row))
  where
    by : AllByRecursion P (put new rows) → Order new row → AllByRecursion P (put new (row ∷ rows))
    by rest (inl e) = rw (put_at new row rows e) (one, all.1)
    by rest (inr (inl l)) = rw (put_before new row rows l) (one, all)
    by rest (inr (inr g)) = rw (put_past new row rows g) (all.0, rest)

put_keeps : (new : Row) (rows : List Row) → IsTable rows → IsTable (put new rows)
put_keeps new [] table = (tt, tt)
put_keeps new (row ∷ rows) table = by (put_keeps new rows table.1) (cases_order (row_key new) (row_key row))
  where
    by : IsTable (put new rows) → Order new row → IsTable (put new (row ∷ rows))
    by rest (inl e) = rw (put_at new row rows e) (below_all (row_key new) (row_key row) rows (omega arith) table.0, table.1)
    by rest (inr (inl l)) = rw (put_before new row rows l) ((l, below_all (row_key new) (row_key row) rows (omega arith) table.0), table)
    by rest (inr (inr g)) = rw (put_past new row rows g) (every_put (λ later. row_key row < row_key later) new rows g table.0, rest)

below_filter : (k : ℕ) (p : Row → Bool) (rows : List Row) → Below k rows → Below k (filter p rows)
below_filter k p rows = every_filter (λ later. k < row_key later) (λ later. k < row_key later) p (λ later below passes. below) rows

pub filter_keeps : (p : Row → Bool) (rows : List Row) → IsTable rows → IsTable (filter p rows)
filter_keeps p [] table = tt
filter_keeps p (row ∷ rows) table = by (p row) (filter_keeps p rows table.1)
  where
    by : (b : Bool) → IsTable (filter p rows) → IsTable (cond b (row ∷ filter p rows) (filter p rows))
    by true rest = (below_filter (row_key row) p rows table.0, rest)
    by false rest = rest

pub calls_keep_tables : CallsKeepTables
calls_keep_tables rows (Set prefix rate) table = put_keeps (record { prefix = prefix; rate = rate }) rows table
calls_keep_tables rows (Del prefix) table = filter_keeps (λ row. not (row_key row == key prefix)) rows table
calls_keep_tables rows (Get prefix) table = table
calls_keep_tables rows (Rate number) table = table
calls_keep_tables rows (Listing from to limit) table = table

pub after_all_append : (rows : List Row) (calls more : List Call) → after_all rows (calls ++ more) ≡ after_all (after_all rows calls) more
after_all_append rows [] more = refl
after_all_append rows (call ∷ calls) more = after_all_append (after rows call) calls more

-- The first rows of a table, and those behind them.
pub table_take : (k : ℕ) (rows : List Row) → IsTable rows → IsTable (take k rows)
table_take zero rows table = tt
table_take (suc k) [] table = tt
table_take (suc k) (row ∷ rows) table = (every_take _ k rows table.0, table_take k rows table.1)

pub table_drop : (k : ℕ) (rows : List Row) → IsTable rows → IsTable (drop k rows)
table_drop zero rows table = table
table_drop (suc k) [] table = tt
table_drop (suc k) (row ∷ rows) table = table_drop k rows table.1
