-- Rows put back in rising order leave the same table as in the order in which they came loose.
use Rattle.std.proofs.Common.{◌≡◌, ℕ, suc, ◌<◌, List, [], ◌∷◌, refl, sym, ap, arith, ◌∙◌, inl, inr}
use Rattle.std.specs.List.{AllByRecursion}
use Rattle.std.proofs.lemmas.Bool.{cases_order}
use Rattle.palm_base.specs.Table.{row_key, put}
use Rattle.palm_base.specs.Lawful.{RowIsIn, Rising}
use Rattle.palm_base.proofs.Tables.{Order, put_before, put_at, put_past}
use Rattle.palm_base.proofs.TableSplits.{From}
use Rattle.palm_base.proofs.RisingRows.{rising_rest, rising_put, rising_range, from_range, put_all}
use Rattle.palm_base.specs.declared.row.Row.{Row}

-- Two rows with different keys may be put in either order.
put_either : (low high : Row) (rows : List Row) → row_key low < row_key high → put high (put low rows) ≡ put low (put high rows)
put_either low high [] l = put_past high low [] l ∙ sym (put_before low high [] l)
put_either low high (row ∷ rows) l = by (put_either low high rows l) (cases_order (row_key low) (row_key row)) (cases_order (row_key high) (row_key row))
  where
    by : put high (put low rows) ≡ put low (put high rows) → Order low row → Order high row
        → put high (put low (row ∷ rows)) ≡ put low (put high (row ∷ rows))
    by rest (inl e) (inl f) = absurd (omega arith)
    by rest (inl e) (inr (inl f)) = absurd (omega arith)
    by rest (inl e) (inr (inr f)) =
        ap (put high) (put_at low row rows e) ∙ put_past high low rows l ∙ sym (ap (put low) (put_past high row rows f) ∙ put_at low row (put high rows) e)
    by rest (inr (inl e)) (inl f) =
        ap (put high) (put_before low row rows e) ∙ put_past high low (row ∷ rows) l ∙ ap (λ more. low ∷ more) (put_at high row rows f)
        ∙ sym (ap (put low) (put_at high row rows f) ∙ put_before low high rows l)
    by rest (inr (inl e)) (inr (inl f)) =
        ap (put high) (put_before low row rows e) ∙ put_past high low (row ∷ rows) l ∙ ap (λ more. low ∷ more) (put_before high row rows f)
        ∙ sym (ap (put low) (put_before high row rows f) ∙ put_before low high (row ∷ rows) l)
    by rest (inr (inl e)) (inr (inr f)) =
        ap (put high) (put_before low row rows e) ∙ put_past high low (row ∷ rows) l ∙ ap (λ more. low ∷ more) (put_past high row rows f)
        ∙ sym (ap (put low) (put_past high row rows f) ∙ put_before low row (put high rows) e)
    by rest (inr (inr e)) (inl f) = absurd (omega arith)
    by rest (inr (inr e)) (inr (inl f)) = absurd (omega arith)
    by rest (inr (inr e)) (inr (inr f)) =
        ap (put high) (put_past low row rows e) ∙ put_past high row (put low rows) f ∙ ap (λ more. row ∷ more) rest
        ∙ sym (ap (put low) (put_past high row rows f) ∙ put_past low row (put high rows) e)

-- Of two rows with one key the later stands.
put_twice : (new old : Row) (rows : List Row) → row_key new ≡ row_key old → put new (put old rows) ≡ put new rows
put_twice new old [] e = put_at new old [] e
put_twice new old (row ∷ rows) e = by (put_twice new old rows e) (cases_order (row_key old) (row_key row))
  where
    by : put new (put old rows) ≡ put new rows → Order old row → put new (put old (row ∷ rows)) ≡ put new (row ∷ rows)
    by rest (inl f) = ap (put new) (put_at old row rows f) ∙ put_at new old rows e ∙ sym (put_at new row rows (omega arith))
    by rest (inr (inl f)) = ap (put new) (put_before old row rows f) ∙ put_at new old (row ∷ rows) e ∙ sym (put_before new row rows (omega arith))
    by rest (inr (inr f)) =
        ap (put new) (put_past old row rows f) ∙ put_past new row (put old rows) (omega arith) ∙ ap (λ more. row ∷ more) rest
        ∙ sym (put_past new row rows (omega arith))

-- A row may be put before rows with greater keys, or after them.
put_later : (k : ℕ) (row : Row) (rows later : List Row) → row_key row < k → From k later → put_all (put row rows) later ≡ put row (put_all rows later)
put_later k row rows [] less from = refl
put_later k row rows (next ∷ later) less from =
    ap (λ more. put_all more later) (put_either row next rows (omega arith)) ∙ put_later k row (put next rows) later less from.1

-- To put a row into rising rows, and then these into a table, is to put these into the table, and then the row.
put_last : (l h : ℕ) (row : Row) (rows risen : List Row) → Rising l h risen → put_all rows (put row risen) ≡ put row (put_all rows risen)
put_last l h row rows [] rise = refl
put_last l h row rows (first ∷ risen) rise =
    by (put_last (suc (row_key first)) h row (put first rows) risen (rising_rest l h first risen rise)) (cases_order (row_key row) (row_key first))
  where
    from : From (suc (row_key first)) risen
    from = from_range (suc (row_key first)) h risen (rising_range (suc (row_key first)) h risen (rising_rest l h first risen rise))

    by : put_all (put first rows) (put row risen) ≡ put row (put_all (put first rows) risen) → Order row first
        → put_all rows (put row (first ∷ risen)) ≡ put row (put_all rows (first ∷ risen))
    by rest (inl e) =
        ap (put_all rows) (put_at row first risen e) ∙ ap (λ more. put_all more risen) (sym (put_twice row first rows e))
        ∙ put_later (suc (row_key first)) row (put first rows) risen (omega arith) from
    by rest (inr (inl less)) =
        ap (put_all rows) (put_before row first risen less) ∙ ap (λ more. put_all more risen) (put_either row first rows less)
        ∙ put_later (suc (row_key first)) row (put first rows) risen (omega arith) from
    by rest (inr (inr greater)) = ap (put_all rows) (put_past row first risen greater) ∙ rest

-- To put rows in rising order is to put them in theirs, after those that have risen before.
pub put_sorted : (l h : ℕ) (rows risen loose : List Row) → Rising l h risen → AllByRecursion (RowIsIn l h) loose
    → put_all rows (put_all risen loose) ≡ put_all (put_all rows risen) loose
put_sorted l h rows risen [] rise inside = refl
put_sorted l h rows risen (row ∷ loose) rise inside =
    put_sorted l h rows (put row risen) loose (rising_put l h row risen inside.0 rise) inside.1
    ∙ ap (λ more. put_all more loose) (put_last l h row rows risen rise)
