-- A leaf: what its rows are, and how its keys and rates hold them.
use Rattle.std.specs.Prelude.{◌≡◌, ℕ, ◌≤◌, List, [], ◌∷◌, ◌++◌, length, take, drop, All}
use Rattle.std.specs.List.{AllByRecursion, insert}
use Rattle.std.proofs.Common.{suc}
use Rattle.palm_base.specs.Prefix.{IsPrefix}
use Rattle.palm_base.specs.Key.{digits_of, IsKey}
use Rattle.palm_base.specs.Table.{IsTable}
use Rattle.palm_base.specs.declared.bounds.TheConstants.{MOST_LEAF_ROWS}
use Rattle.palm_base.specs.declared.row.Row.{Row}

-- The rows of a leaf: a table of no more rows than a leaf has room for, each of a prefix.
-- So no rows are a leaf's, and so are the rows of 1, 10 and 2 in this order.
pub record IsLeaf (rows : List Row) : Type 0 where
  pub few : length rows ≤ MOST_LEAF_ROWS
  pub table : IsTable rows
  pub prefixes : All (λ (row : Row). IsPrefix row.prefix) rows

-- The rows of these keys and rates, side by side. Keys past the last rate stand for nothing.
-- So the keys of 44, 45 and 46 and the rates 5, 6 make the rows of 44 at 5 and of 45 at 6.
abbrev pub rows_of : List ℕ → List ℕ → List Row
rows_of keys [] = []
rows_of [] (rate ∷ rates) = []
rows_of (key ∷ keys) (rate ∷ rates) = record { prefix = digits_of key; rate = rate } ∷ rows_of keys rates

-- The keys once one is put in at a place among the first so many, of which those from there on move up by one.
-- So 20 put in at the place 1 of the first two of 10, 30, 0, 0 makes them 10, 20, 30, 0.
abbrev pub opened : List ℕ → ℕ → ℕ → ℕ → List ℕ
opened keys place count key = insert (take count keys) place key ++ drop (suc count) keys

-- The keys and rates hold a leaf's rows: as many keys as there are rates are keys of prefixes, and their rows are a table.
-- So the keys of 44 and 45, with whatever words after them, and the rates 5, 6 hold the rows of 44 at 5 and of 45 at 6.
pub record HoldsRows (keys rates : List ℕ) : Type 0 where
  pub room : length keys ≡ MOST_LEAF_ROWS
  pub few : length rates ≤ MOST_LEAF_ROWS
  pub prefixes : AllByRecursion IsKey (take (length rates) keys)
  pub table : IsTable (rows_of keys rates)
