-- Rows within a range of keys: those left and right of the range add none.
use Rattle.std.proofs.Common.{◌≡◌, ℕ, suc, leb, List, [], ◌∷◌, filter, refl, arith}
use Rattle.std.proofs.Math.Bool.{and-false}
use Rattle.std.proofs.lemmas.Bool.{lt-leb}
use Rattle.palm_base.specs.Table.{row_key, lies_within}
use Rattle.palm_base.proofs.TableSplits.{Under, From}
use Rattle.palm_base.specs.declared.row.Row.{Row}

-- Rows below the range add none.
pub within-under : (from to : ℕ) (rows : List Row) → Under from rows → filter (lies_within from to) rows ≡ []
within-under from to [] under = refl
within-under from to (row ∷ rows) under = rw (lt-leb from (row_key row) under.0) (within-under from to rows under.1)

-- And so do rows above it.
pub within-from : (from to : ℕ) (rows : List Row) → From (suc to) rows → filter (lies_within from to) rows ≡ []
within-from from to [] behind = refl
within-from from to (row ∷ rows) behind =
    rw (lt-leb (row_key row) to (omega (arith, behind.0)), and-false (leb from (row_key row))) (within-from from to rows behind.1)
