-- A row at a place of a table, and a gap between two rows: what a look-up and each edit come to there.
use Rattle.std.proofs.Common.{◌≡◌, ℕ, zero, suc, ◌<◌, ◌≤◌, List, [], ◌∷◌, length, get_or, None, refl, ap, ◌∙◌, arith}
use Rattle.std.specs.List.{AllWithin, HoldsAt}
use Rattle.std.proofs.lemmas.Bool.{eq-eqb, ne_eqb}
use Rattle.palm_base.specs.Table.{row_key, rate_at, without, IsTable}
use Rattle.palm_base.specs.declared.row.Row.{Row}
use Rattle.palm_base.proofs.Tables.{Below, put_before, put_at, put_past, below_all}
use Rattle.palm_base.specs.Place.{IsRowAt, IsGapAt}

-- A key below those of all rows is no row's.
rate_below : (k : ℕ) (rows : List Row) → Below k rows → rate_at k rows ≡ None
rate_below k [] below = refl
rate_below k (row ∷ rows) below = rw (ne_eqb (row_key row) k (λ e. omega (arith, below.0))) (rate_below k rows below.1)

-- So taking out its row leaves all.
without_below : (k : ℕ) (rows : List Row) → Below k rows → without k rows ≡ rows
without_below k [] below = refl
without_below k (row ∷ rows) below =
    rw (ne_eqb (row_key row) k (λ e. omega (arith, below.0))) (ap (λ rest. row ∷ rest) (without_below k rows below.1))

-- The first row has the key.
row_at_head : (k : ℕ) (first : Row) (rows : List Row) → row_key first ≡ k → Below k rows → IsRowAt (first ∷ rows) k 0
row_at_head k first rows has below = record {
  inside = omega arith;
  found = λ other. rw (eq-eqb (row_key first) k has) refl;
  written = λ row same. put_at row first rows (omega arith);
  removed = rw (eq-eqb (row_key first) k has) (without_below k rows below);
}

-- A row before the place has a smaller key.
row_at_later : (k i : ℕ) (first : Row) (rows : List Row) → row_key first < k → IsRowAt rows k i → IsRowAt (first ∷ rows) k (suc i)
row_at_later k i first rows smaller at = record {
  inside = omega (arith, at.inside);
  found = λ other. rw (ne_eqb (row_key first) k (λ e. omega arith)) (at.found other);
  written = λ row same. put_past row first rows (omega arith) ∙ ap (λ rest. first ∷ rest) (at.written row same);
  removed = rw (ne_eqb (row_key first) k (λ e. omega arith)) (ap (λ rest. first ∷ rest) at.removed);
}

gap_at_head : (k : ℕ) (rows : List Row) → Below k rows → IsGapAt rows k 0
gap_at_head k [] below = record { inside = omega arith; absent = refl; inserted = λ row same. refl; kept = refl }
gap_at_head k (first ∷ rows) below = record {
  inside = omega arith;
  absent = rate_below k (first ∷ rows) below;
  inserted = λ row same. put_before row first rows (omega (arith, below.0));
  kept = without_below k (first ∷ rows) below;
}

gap_at_later : (k i : ℕ) (first : Row) (rows : List Row) → row_key first < k → IsGapAt rows k i → IsGapAt (first ∷ rows) k (suc i)
gap_at_later k i first rows smaller gap = record {
  inside = omega (arith, gap.inside);
  absent = rw (ne_eqb (row_key first) k (λ e. omega arith)) gap.absent;
  inserted = λ row same. put_past row first rows (omega arith) ∙ ap (λ rest. first ∷ rest) (gap.inserted row same);
  kept = rw (ne_eqb (row_key first) k (λ e. omega arith)) (ap (λ rest. first ∷ rest) gap.kept);
}

below_at : (k : ℕ) (rows : List Row) → Below k rows → (i : ℕ) (other : Row) → i < length rows → k < row_key (get_or rows i other)
below_at k [] below i other inside = absurd (omega arith)
below_at k (row ∷ rows) below zero other inside = below.0
below_at k (row ∷ rows) below (suc i) other inside = below_at k rows below.1 i other (omega arith)

-- A place whose row has the key.
pub row_at : (k : ℕ) (rows : List Row) → IsTable rows → (i : ℕ) → i < length rows → HoldsAt (λ row. row_key row ≡ k) rows i → IsRowAt rows k i
row_at k [] table i inside has = absurd (omega arith)
row_at k (row ∷ rows) table zero inside has = row_at_head k row rows (has row) (below_all k (row_key row) rows (omega (arith, has row)) table.0)
row_at k (row ∷ rows) table (suc i) inside has =
    row_at_later k i row rows (omega (arith, has row, below_at (row_key row) rows table.0 i row (omega arith))) (row_at k rows table.1 i (omega arith) has)

below_from : (k : ℕ) (rows : List Row) → AllWithin (λ row. k < row_key row) rows 0 (length rows) → Below k rows
below_from k [] greater = tt
below_from k (row ∷ rows) greater =
    (greater 0 row (omega arith) (omega arith), below_from k rows (λ i other least inside. greater (suc i) other (omega arith) (omega arith)))

-- A place before which all keys are smaller, and from which on all are greater.
pub gap_at : (k : ℕ) (rows : List Row) (i : ℕ) → i ≤ length rows → AllWithin (λ row. row_key row < k) rows 0 i → AllWithin (λ row. k < row_key row) rows i (length rows) → IsGapAt rows k i
gap_at k rows zero inside smaller greater = gap_at_head k rows (below_from k rows greater)
gap_at k [] (suc i) inside smaller greater = absurd (omega arith)
gap_at k (row ∷ rows) (suc i) inside smaller greater =
    gap_at_later k i row rows (smaller 0 row (omega arith) (omega arith))
    (gap_at k rows i (omega arith)
    (λ j other least below. smaller (suc j) other (omega arith) (omega arith))
    (λ j other least below. greater (suc j) other (omega arith) (omega arith)))

-- The keys of a table rise.
pub keys_rise : (rows : List Row) → IsTable rows → (i j : ℕ) (other : Row) → i ≤ j → j < length rows → row_key (get_or rows i other) ≤ row_key (get_or rows j other)
keys_rise [] table i j other le inside = absurd (omega arith)
keys_rise (row ∷ rows) table zero zero other le inside = omega arith
keys_rise (row ∷ rows) table zero (suc j) other le inside = omega (arith, below_at (row_key row) rows table.0 j other (omega arith))
keys_rise (row ∷ rows) table (suc i) zero other le inside = absurd (omega arith)
keys_rise (row ∷ rows) table (suc i) (suc j) other le inside = keys_rise rows table.1 i j other (omega arith) (omega arith)
