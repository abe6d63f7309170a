-- The row of the longest prefix that begins a number is found by looking up the number's fronts.
use Rattle.std.proofs.Common.{◌≡◌, ℕ, zero, suc, ◌<◌, ◌≤◌, Bool, true, false, cond, List, [], ◌∷◌, length, take, filter, length-take-le, refl, sym, ap, ◌∙◌, arith, ◌⊎◌, inl, inr}
use Rattle.std.specs.Prelude.{Option, None, Some}
use Rattle.std.proofs.lemmas.Bool.{cases_lt, lt-ltb, le-ltb, eq-eqb, ne_eqb}
use Rattle.palm_base.specs.Prefix.{IsPrefix, begins}
use Rattle.palm_base.specs.Key.{key}
use Rattle.palm_base.specs.Table.{row_key, rate_at, longer, longest, best_for}
use Rattle.palm_base.specs.Fronts.{row_or, first_front}
use Rattle.palm_base.specs.FurtherLaws.{FrontsFindTheBest}
use Rattle.palm_base.proofs.KeyOrder.{keys_are_distinct}
use Rattle.palm_base.proofs.Fronts.{front-is_prefix, begins-take, begins-long}
use Rattle.palm_base.specs.declared.row.Row.{Row}

-- No row has more than so many digits.
abbrev Within : ℕ → Option Row → Type 0
Within n None = Unit {0}
Within n (Some row) = length row.prefix ≤ n

-- A front of n digits finds no row of more.
fronts_within : (n : ℕ) (number : List ℕ) (rows : List Row) → n ≤ length number → Within n (first_front n number rows)
fronts_within zero number rows few = tt
fronts_within (suc n) number rows few =
    by (rate_at (key (take (suc n) number)) rows) (first_front n number rows) (fronts_within n number rows (omega arith))
  where
    by : (rate : Option ℕ) (other : Option Row) → Within n other → Within (suc n) (row_or (take (suc n) number) other rate)
    by None None within = tt
    by None (Some row) within = omega arith
    by (Some rate) other within = omega (arith, length-take-le (suc n) number few)

longer_past : (n : ℕ) (row : Row) (other : Option Row) → n < length row.prefix → Within n other → longer row other ≡ Some row
longer_past n row None past within = refl
longer_past n row (Some other) past within = rw (le-ltb (length row.prefix) (length other.prefix) (omega arith)) refl

-- A front of another key than the row's passes it by.
rate_past : (k : ℕ) (row : Row) (rows : List Row) → (row_key row ≡ k → ⊥) → rate_at k (row ∷ rows) ≡ rate_at k rows
rate_past k row rows other = rw (ne_eqb (row_key row) k other) refl

rate_here : (k : ℕ) (row : Row) (rows : List Row) → row_key row ≡ k → rate_at k (row ∷ rows) ≡ Some row.rate
rate_here k row rows same = rw (eq-eqb (row_key row) k same) refl

-- A row whose key a front has is of that front.
front_of_key : (n : ℕ) (number : List ℕ) (row : Row) → IsPrefix number → IsPrefix row.prefix → suc n ≤ length number
    → row_key row ≡ key (take (suc n) number) → row.prefix ≡ take (suc n) number
front_of_key n number row a b few = keys_are_distinct row.prefix (take (suc n) number) b (front-is_prefix (suc n) number a (omega arith) few)

-- Fronts of other lengths than the row's pass it by.
length_apart : (n : ℕ) (number : List ℕ) (row : Row) → IsPrefix number → IsPrefix row.prefix → suc n ≤ length number
    → (length row.prefix ≡ suc n → ⊥) → row_key row ≡ key (take (suc n) number) → ⊥
length_apart n number row a b few apart same =
    apart (ap length (front_of_key n number row a b few same) ∙ length-take-le (suc n) number few)

-- A row that doesn't begin the number is passed by.
fronts_past : (n : ℕ) (number : List ℕ) (row : Row) (rows : List Row) → IsPrefix number → IsPrefix row.prefix → n ≤ length number
    → begins row.prefix number ≡ false → first_front n number (row ∷ rows) ≡ first_front n number rows
fronts_past zero number row rows a b few not = refl
fronts_past (suc n) number row rows a b few not =
    rw (rate_past (key (take (suc n) number)) row rows apart, fronts_past n number row rows a b (omega arith) not) refl
  where
    apart : row_key row ≡ key (take (suc n) number) → ⊥
    apart same =
        let front : row.prefix ≡ take (suc n) number = front_of_key n number row a b few same in
        let long : length row.prefix ≡ suc n = ap length front ∙ length-take-le (suc n) number few in
        let begun : begins row.prefix number ≡ true = (begins-take row.prefix number).1 (rw long front) in
        cc

-- Of a row that begins the number and what the others' fronts find, the longer is found.
fronts_longer : (n : ℕ) (number : List ℕ) (row : Row) (rows : List Row) → IsPrefix number → IsPrefix row.prefix → n ≤ length number
    → row.prefix ≡ take (length row.prefix) number → length row.prefix ≤ n
    → first_front n number (row ∷ rows) ≡ longer row (first_front n number rows)
fronts_longer zero number row rows a b few front long = absurd (omega (arith, b.some))
fronts_longer (suc n) number row rows a b few front long =
    by (fronts_longer n number row rows a b (omega arith) front) (cases_lt (length row.prefix) (suc n))
  where
    -- the front is longer than the row's prefix
    past : length row.prefix < suc n → (rate : Option ℕ) (other : Option Row)
        → row_or (take (suc n) number) (longer row other) rate ≡ longer row (row_or (take (suc n) number) other rate)
    past short None other = refl
    past short (Some rate) other =
        rw (lt-ltb (length row.prefix) (length (take (suc n) number)) (omega (arith, length-take-le (suc n) number few))) refl

    -- the front is the row's prefix
    here : length row.prefix ≡ suc n → (rate : Option ℕ) (other : Option Row) → Within n other
        → Some row ≡ longer row (row_or (take (suc n) number) other rate)
    here same None other within = sym (longer_past n row other (omega arith) within)
    here same (Some rate) other within =
        rw (le-ltb (length row.prefix) (length (take (suc n) number)) (omega (arith, length-take-le (suc n) number few))) refl

    by : (length row.prefix ≤ n → first_front n number (row ∷ rows) ≡ longer row (first_front n number rows))
        → (length row.prefix < suc n) ⊎ (suc n ≤ length row.prefix)
        → first_front (suc n) number (row ∷ rows) ≡ longer row (first_front (suc n) number rows)
    by rest (inl short) =
        rw (
          rate_past (key (take (suc n) number)) row rows (length_apart n number row a b few (λ same. omega arith)),
          rest (omega arith),
        )
        (past short (rate_at (key (take (suc n) number)) rows) (first_front n number rows))
    by rest (inr wide) =
        let same : length row.prefix ≡ suc n = omega arith in
        let own : row.prefix ≡ take (suc n) number = rw same at front in
        let found : first_front (suc n) number (row ∷ rows) ≡ Some row =
        rw (rate_here (key (take (suc n) number)) row rows (ap key own)) (rw (← own) refl) in
        found ∙ here same (rate_at (key (take (suc n) number)) rows) (first_front n number rows) (fronts_within n number rows (omega arith))

-- What begins a number is no longer.
begun_shorter : (prefix number : List ℕ) → begins prefix number ≡ true → length prefix ≤ length number
begun_shorter prefix number begun = by (cases_lt (length number) (length prefix))
  where
    by : (length number < length prefix) ⊎ (length prefix ≤ length number) → length prefix ≤ length number
    by (inl long) = let not = begins-long prefix number long in cc
    by (inr few) = few

no_rows : (n : ℕ) (number : List ℕ) → first_front n number [] ≡ None
no_rows zero number = refl
no_rows (suc n) number = no_rows n number

pub fronts_find_the_best : FrontsFindTheBest
fronts_find_the_best [] number a b = sym (no_rows (length number) number)
fronts_find_the_best (row ∷ rows) number a b = by (begins row.prefix number) refl (fronts_find_the_best rows number a.1 b)
  where
    by : (answer : Bool) → begins row.prefix number ≡ answer → best_for number rows ≡ first_front (length number) number rows
        → longest (cond answer (row ∷ filter (λ row. begins row.prefix number) rows) (filter (λ row. begins row.prefix number) rows)) ≡ first_front (length number) number (row ∷ rows)
    by true begun rest =
        let front : row.prefix ≡ take (length row.prefix) number = (begins-take row.prefix number).0 begun in
        ap (longer row) rest ∙ sym (fronts_longer (length number) number row rows b a.0 (omega arith) front (begun_shorter row.prefix number begun))
    by false not rest = rest ∙ sym (fronts_past (length number) number row rows b a.0 (omega arith) not)
