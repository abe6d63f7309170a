-- Rows in rising order, however they were sorted, are the table that their Sets make.
use Rattle.std.proofs.Common.{◌≡◌, ℕ, ◌+◌, ◌<◌, ◌≤◌, List, [], ◌∷◌, ◌++◌, map, refl, sym, ap, ◌∙◌, arith, ◌⊎◌, inl, inr}
use Rattle.std.specs.List.{sum_by}
use Rattle.std.specs.List.Sorted.{IsPermutation}
use Rattle.std.proofs.lemmas.Bool.{cases_order}
use Rattle.std.proofs.lemmas.List.{append-nil}
use Rattle.std.proofs.lemmas.List.Sums.{sum_by-append, sum_by-cons}
use Rattle.std.proofs.lemmas.List.Sorted.{IsPermutation-refl, IsPermutation-sym, IsPermutation-trans, IsPermutation-cons, IsPermutation-middle, IsPermutation-append_left, sum_by-IsPermutation}
use Rattle.palm_base.specs.Table.{row_key, put, after_all, IsTable}
use Rattle.palm_base.specs.Pass.{set_of, base_pass}
use Rattle.palm_base.specs.FurtherLaws.{SortedRowsAreTheTable, AnySortMakesTheOrphans}
use Rattle.palm_base.proofs.Tables.{put_before, put_past, calls_keep_tables}
use Rattle.palm_base.proofs.SameTables.{same_tables}
use Rattle.palm_base.proofs.KeyCounts.{has, has_key, one_each, distinct_is_table}
use Rattle.palm_base.proofs.PassCounts.{loose_once}
use Rattle.palm_base.specs.declared.row.Row.{Row}

-- ---- rows put in

swap_first : (x y : Row) (rows : List Row) → IsPermutation (x ∷ y ∷ rows) (y ∷ x ∷ rows)
swap_first x y rows = IsPermutation-middle (x ∷ []) y rows

-- A row of a new key is put in among the others.
put_permutes : (new : Row) (rows : List Row) → sum_by (has (row_key new)) rows ≡ 0 → IsPermutation (new ∷ rows) (put new rows)
put_permutes new [] none = IsPermutation-refl (new ∷ [])
put_permutes new (row ∷ rows) none = by (rw sum_by-cons at none) (put_permutes new rows) (cases_order (row_key new) (row_key row))
  where
    by : has (row_key new) row + sum_by (has (row_key new)) rows ≡ 0
        → (sum_by (has (row_key new)) rows ≡ 0 → IsPermutation (new ∷ rows) (put new rows))
        → (row_key new ≡ row_key row) ⊎ ((row_key new < row_key row) ⊎ (row_key row < row_key new))
        → IsPermutation (new ∷ row ∷ rows) (put new (row ∷ rows))
    by total rest (inl same) = let one = has_key (row_key new) row (sym same) in absurd (omega arith)
    by total rest (inr (inl less)) = rw (put_before new row rows less) (IsPermutation-refl (new ∷ row ∷ rows))
    by total rest (inr (inr more)) =
        rw (put_past new row rows more)
        (IsPermutation-trans (new ∷ row ∷ rows) (row ∷ new ∷ rows) (row ∷ put new rows) (swap_first new row rows)
        (IsPermutation-cons row (new ∷ rows) (put new rows) (rest (omega arith))))

-- Rows put into a table, where all of them in rising order are another: that is what is left.
puts_sorted : (rows back sorted : List Row) → IsTable rows → IsTable sorted → IsPermutation (rows ++ back) sorted
    → after_all rows (map set_of back) ≡ sorted
puts_sorted rows [] sorted a b same = same_tables rows sorted a b (rw append-nil at same)
puts_sorted rows (row ∷ back) sorted a b same =
    let k = row_key row in
    let count : sum_by (has k) sorted ≡ sum_by (has k) (rows ++ row ∷ back) = sum_by-IsPermutation (has k) (rows ++ row ∷ back) sorted same in
    let parts : sum_by (has k) (rows ++ row ∷ back) ≡ sum_by (has k) rows + (has k row + sum_by (has k) back) =
    sum_by-append (has k) rows (row ∷ back) ∙ ap (λ n. sum_by (has k) rows + n) (sum_by-cons (has k) row back) in
    let one : has k row ≡ 1 = has_key k row refl in
    let most : sum_by (has k) sorted ≤ 1 = one_each k sorted b in
    let new : sum_by (has k) rows ≡ 0 = omega arith in
    let moved : IsPermutation (put row rows ++ back) ((row ∷ rows) ++ back) =
    IsPermutation-append_left back (put row rows) (row ∷ rows) (IsPermutation-sym (row ∷ rows) (put row rows) (put_permutes row rows new)) in
    let placed : IsPermutation (row ∷ (rows ++ back)) (rows ++ row ∷ back) =
    IsPermutation-sym (rows ++ row ∷ back) (row ∷ (rows ++ back)) (IsPermutation-middle rows row back) in
    puts_sorted (put row rows) back sorted (calls_keep_tables rows (set_of row) a) b
    (IsPermutation-trans (put row rows ++ back) (row ∷ (rows ++ back)) sorted moved (IsPermutation-trans (row ∷ (rows ++ back)) (rows ++ row ∷ back) sorted placed same))

pub sorted_rows_are_the_table : SortedRowsAreTheTable
sorted_rows_are_the_table rows sorted table same = puts_sorted [] rows sorted tt table same

pub any_sort_makes_the_orphans : AnySortMakesTheOrphans
any_sort_makes_the_orphans tree edits sorted lawful same up =
    let loose = (base_pass tree.0 tree.1 edits).loose in
    puts_sorted [] loose sorted tt
    (distinct_is_table sorted up (λ k. once k (sum_by-IsPermutation (has k) loose sorted same) (loose_once tree edits lawful k))) same
  where
    once : (k : ℕ) → sum_by (has k) sorted ≡ sum_by (has k) (base_pass tree.0 tree.1 edits).loose
        → sum_by (has k) (base_pass tree.0 tree.1 edits).loose ≤ 1 → sum_by (has k) sorted ≤ 1
    once k count most = omega arith
