-- Rating by fronts: the rows of a number's first digits are looked up one after another.
use Rattle.std.specs.Prelude.{ℕ, List, take, Option, None, Some}
use Rattle.std.proofs.Common.{zero, suc}
use Rattle.palm_base.specs.Key.{key}
use Rattle.palm_base.specs.Table.{rate_at}
use Rattle.palm_base.specs.declared.row.Row.{Row}

-- The row of a prefix where a rate was found for it, and else the other. So for 44 the rate 5 makes the row of 44 at 5.
abbrev pub row_or : List ℕ → Option Row → Option ℕ → Option Row
row_or prefix other None = other
row_or prefix other (Some rate) = Some (record { prefix = prefix; rate = rate })

-- The row of the first front of a number that has one, from the front of n digits down to that of one digit.
-- So among 4, 44 and 45 the fronts 442, 44 and 4 of the number 442 find the row of 44.
abbrev pub first_front : ℕ → List ℕ → List Row → Option Row
first_front zero number rows = None
first_front (suc n) number rows =
    row_or (take (suc n) number) (first_front n number rows) (rate_at (key (take (suc n) number)) rows)
