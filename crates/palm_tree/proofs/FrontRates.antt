-- A number's fronts, one after another.
use Rattle.std.proofs.Common.{◌≡◌, ℕ, zero, suc, ◌-◌, ◌<◌, ◌≤◌, List, [], ◌∷◌, length, take, Some, None, refl, sym, ap, arith, ◌∙◌}
use Rattle.palm_base.specs.Prefix.{IsPrefix}
use Rattle.palm_base.specs.Key.{key}
use Rattle.palm_base.specs.Table.{rate_at, best_for, answer}
use Rattle.palm_base.specs.Fronts.{row_or, first_front}
use Rattle.palm_base.specs.Tree.{Tree, rows_of}
use Rattle.palm_base.specs.Lows.{LowsAreKeys}
use Rattle.palm_base.specs.declared.row.Row.{Row}
use Rattle.palm_base.specs.declared.call.Call.TheVariants.{Rate}
use Rattle.palm_base.specs.declared.call.Reply.TheVariants.{Absent}
use Rattle.palm_base.proofs.FrontSearch.{fronts_find_the_best}
use Rattle.palm_base.proofs.Lows.{prefixes_in}

-- A front that has a rate is the first that does.
pub front_found : (n rate : ℕ) (number : List ℕ) (rows : List Row) → 0 < n → rate_at (key (take n number)) rows ≡ Some rate → Some (record { prefix = take n number; rate = rate }) ≡ first_front n number rows
front_found zero rate number rows some found = absurd (omega arith)
front_found (suc n) rate number rows some found = sym (ap (row_or (take (suc n) number) (first_front n number rows)) found)

-- One that has none leaves the shorter ones.
pub front_missed : (n : ℕ) (number : List ℕ) (rows : List Row) → 0 < n → rate_at (key (take n number)) rows ≡ None → first_front n number rows ≡ first_front (n - 1) number rows
front_missed zero number rows some missed = absurd (omega arith)
front_missed (suc n) number rows some missed =
    ap (row_or (take (suc n) number) (first_front n number rows)) missed ∙ ap (λ (k : ℕ). first_front k number rows) (omega arith)

-- And the fronts of a lawful tree find the row of the longest prefix.
pub fronts_find : (tree : Tree) (number : List ℕ) → LowsAreKeys tree → IsPrefix number → first_front (length number) number (rows_of tree) ≡ best_for number (rows_of tree)
fronts_find tree number lows is = sym (fronts_find_the_best (rows_of tree) number (prefixes_in tree.0 tree.1 lows) is)

-- So where no front has a rate there is none.
pub none_best : (tree : Tree) (number : List ℕ) (n : ℕ) → LowsAreKeys tree → IsPrefix number → first_front n number (rows_of tree) ≡ first_front (length number) number (rows_of tree) → n ≤ 0 → None ≡ best_for number (rows_of tree)
none_best tree number zero lows is same least = same ∙ fronts_find tree number lows is
none_best tree number (suc n) lows is same least = absurd (omega arith)

-- Among no rows none rates a number.
pub no_rows_rate : (rows : List Row) (number : List ℕ) → length rows ≡ 0 → Absent ≡ answer rows (Rate number)
no_rows_rate [] number none = refl
no_rows_rate (row ∷ rows) number none = absurd (omega arith)
