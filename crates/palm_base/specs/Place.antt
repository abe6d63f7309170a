-- Where a row with a key stands in a table, or would stand, and what the calls then come to.
use Rattle.std.specs.Prelude.{◌≡◌, ◌<◌, ◌≤◌, ℕ, List, length, slice_index_or, slice_set, Some, None}
use Rattle.std.specs.List.{insert, remove}
use Rattle.palm_base.specs.Table.{row_key, rate_at, put, without}
use Rattle.palm_base.specs.declared.row.Row.{Row}

-- The row at this place has the key. So in the table of 1, 10 and 2 the key of 10 is at the place 1: a Set writes there,
-- and a Del takes out the row there.
pub record IsRowAt (rows : List Row) (k i : ℕ) : Type 0 where
  pub inside : i < length rows
  pub found : (other : Row) → rate_at k rows ≡ Some (slice_index_or rows i other).rate
  pub written : (row : Row) → row_key row ≡ k → put row rows ≡ slice_set rows i row
  pub removed : without k rows ≡ remove rows i

-- No row has the key, and one with it would stand at this place. So in the table of 1, 10 and 2 the key of 11 has its gap
-- at the place 2: a Set puts a row in there, and a Del takes out none.
pub record IsGapAt (rows : List Row) (k i : ℕ) : Type 0 where
  pub inside : i ≤ length rows
  pub absent : rate_at k rows ≡ None
  pub inserted : (row : Row) → row_key row ≡ k → put row rows ≡ insert rows i row
  pub kept : without k rows ≡ rows
