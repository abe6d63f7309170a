-- How prefixes and rows are written.
use Rattle.std.specs.Prelude.{ℕ, ◌+◌, List, ◌++◌, length, map, codes}
use Rattle.std.specs.List.{flat_map}
use Rattle.std.specs.Fmt.{decimal}
use Rattle.palm_base.specs.declared.row.Row.{Row}

-- The text of a prefix: its digits. So that of 4, 4 is "44".
abbrev pub digits_text : List ℕ → List ℕ
digits_text digits = map (λ d. d + 48) digits

-- A row: its prefix, a blank and its rate. So that of 44 at 5 is "44 5".
abbrev pub row_text : Row → List ℕ
row_text row = digits_text row.prefix ++ (codes " " ++ decimal row.rate)

-- A row of a list, after a blank. So that of 44 at 5 is " 44 5".
abbrev pub listed_row_text : Row → List ℕ
listed_row_text row = codes " " ++ row_text row

-- How many rows there are, and each of them. So that of 44 at 5 and 45 at 6 is "2 44 5 45 6".
abbrev pub rows_text : List Row → List ℕ
rows_text rows = decimal (length rows) ++ flat_map listed_row_text rows
