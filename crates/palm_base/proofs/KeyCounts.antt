-- How many rows have a key: of a table at most one, and rows whose keys don't fall are a table where none is had twice.
use Rattle.std.proofs.Common.{◌≡◌, ℕ, suc, ◌+◌, ◌<◌, ◌≤◌, cond, ◌==◌, List, [], ◌∷◌, refl, arith, ◌⊎◌, inl, inr}
use Rattle.std.specs.List.{AllByRecursion, sum_by}
use Rattle.std.specs.List.Sorted.{IsNonDecreasingBy}
use Rattle.std.proofs.lemmas.Bool.{cases_order, eq-eqb, ne_eqb}
use Rattle.std.proofs.lemmas.List.Sums.{sum_by-cons}
use Rattle.std.proofs.lemmas.List.Elements.{recursion_from_All}
use Rattle.palm_base.specs.Table.{row_key, IsTable}
use Rattle.palm_base.proofs.Tables.{Below}
use Rattle.palm_base.specs.declared.row.Row.{Row}

-- 1 for a row with this key, and 0 for another.
abbrev pub has : ℕ → Row → ℕ
has k row = cond (row_key row == k) 1 0

pub has_key : (k : ℕ) (row : Row) → row_key row ≡ k → has k row ≡ 1
has_key k row same = rw (eq-eqb (row_key row) k same) refl

has_other : (k : ℕ) (row : Row) → (row_key row ≡ k → ⊥) → has k row ≡ 0
has_other k row other = rw (ne_eqb (row_key row) k other) refl

none_below : (k : ℕ) (rows : List Row) → Below k rows → sum_by (has k) rows ≡ 0
none_below k [] below = refl
none_below k (row ∷ rows) below =
    let none = has_other k row (λ same. omega (arith, below.0)) in
    let rest = none_below k rows below.1 in
    rw sum_by-cons (omega arith)

-- Of a table at most one row has a key.
pub one_each : (k : ℕ) (rows : List Row) → IsTable rows → sum_by (has k) rows ≤ 1
one_each k [] table = omega arith
one_each k (row ∷ rows) table = rw sum_by-cons (by (one_each k rows table.1) (cases_order (row_key row) k))
  where
    by : sum_by (has k) rows ≤ 1 → (row_key row ≡ k) ⊎ ((row_key row < k) ⊎ (k < row_key row)) → has k row + sum_by (has k) rows ≤ 1
    by rest (inl same) =
        let below : Below k rows = rw same at table.0 in
        let one = has_key k row same in
        let none = none_below k rows below in
        omega arith
    by rest (inr (inl less)) = let none = has_other k row (λ same. omega arith) in omega arith
    by rest (inr (inr more)) = let none = has_other k row (λ same. omega arith) in omega arith

-- Rows of at least a key that none of them has lie above it.
above : (k : ℕ) (rows : List Row) → AllByRecursion (λ row. k ≤ row_key row) rows → sum_by (has k) rows ≡ 0 → Below k rows
above k [] least none = tt
above k (row ∷ rows) least none = by (rw sum_by-cons at none) (above k rows least.1) (cases_order (row_key row) k)
  where
    by : has k row + sum_by (has k) rows ≡ 0 → (sum_by (has k) rows ≡ 0 → Below k rows)
        → (row_key row ≡ k) ⊎ ((row_key row < k) ⊎ (k < row_key row)) → Below k (row ∷ rows)
    by total rest (inl same) = let one = has_key k row same in absurd (omega arith)
    by total rest (inr (inl less)) = absurd (omega (arith, least.0))
    by total rest (inr (inr more)) = (more, rest (omega arith))

-- Rows whose keys don't fall, and each of which has its key alone, are a table.
pub distinct_is_table : (rows : List Row) → IsNonDecreasingBy row_key rows → ((k : ℕ) → sum_by (has k) rows ≤ 1) → IsTable rows
distinct_is_table [] up once = tt
distinct_is_table (row ∷ rows) up once =
    let least : AllByRecursion (λ later. row_key row ≤ row_key later) rows =
    recursion_from_All (λ later. row_key row ≤ row_key later) rows (λ i d inside. up 0 (suc i) d (omega arith) (omega arith)) in
    let one = has_key (row_key row) row refl in
    let own : has (row_key row) row + sum_by (has (row_key row)) rows ≤ 1 = rw sum_by-cons at (once (row_key row)) in (
      above (row_key row) rows least (omega arith),
      distinct_is_table rows (λ i j d order inside. up (suc i) (suc j) d (omega arith) (omega arith)) (λ k. rest k (rw sum_by-cons at (once k))),
    )
  where
    rest : (k : ℕ) → has k row + sum_by (has k) rows ≤ 1 → sum_by (has k) rows ≤ 1
    rest k all = omega arith
