-- A search by halves for a key ends at its row or at its gap.
use Rattle.std.proofs.Common.{ℕ, List, length, Result, Ok, Err, MatchResult, sym, arith}
use Rattle.std.specs.List.Sorted.{IsSearchInRange, IsBinarySearchResult, IsNonDecreasingBy}
use Rattle.std.specs.Ordering.{nat_cmp, ordering_index}
use Rattle.std.proofs.lemmas.Cmp.{ranked}
use Rattle.std.proofs.lemmas.Bool.Decides.{nat_tests}
use Rattle.palm_base.specs.Table.{row_key, IsTable}
use Rattle.palm_base.specs.declared.row.Row.{Row}
use Rattle.palm_base.specs.Place.{IsRowAt, IsGapAt}
use Rattle.palm_base.proofs.RowPlaces.{row_at, gap_at, keys_rise}

-- What comparing each row's key with the sought one answers rises along a table, as the search asks.
comparisons_rise : (k : ℕ) (rows : List Row) → IsTable rows → IsNonDecreasingBy (λ row. ordering_index (nat_cmp (row_key row) k)) rows
comparisons_rise k rows table i j other le inside = grind (arith, nat_tests, keys_rise rows table i j other le inside)

pub searched : (k : ℕ) (rows : List Row) → IsTable rows → (answer : Result ℕ ℕ) → IsSearchInRange answer (length rows) → IsBinarySearchResult (λ row. nat_cmp (row_key row) k) rows answer → MatchResult answer (IsRowAt rows k) (IsGapAt rows k)
searched k rows table (Ok i) inside equal = row_at k rows table i inside (λ other. ranked _ k _ (sym (equal other)))
searched k rows table (Err i) inside parted =
    let parts = parted (comparisons_rise k rows table) in
    gap_at k rows i inside
    (λ j other least below. ranked _ k _ (sym (parts.0 j other least below)))
    (λ j other least below. ranked _ k _ (sym (parts.1 j other least below)))
