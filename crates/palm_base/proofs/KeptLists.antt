-- The rows that a List shows, and the edits that leave them.
use Rattle.std.proofs.Common.{◌≡◌, ℕ, zero, suc, ◌+◌, ◌<◌, ◌≤◌, Bool, true, false, cond, ◌&&◌, List, [], ◌∷◌, length, take, filter, refl, sym, ap, ◌∙◌, arith, add-one, subst, length-take-le}
use Rattle.std.specs.Prelude.{nat_le, slice_get, Some}
use Rattle.std.specs.List.{AllByRecursion}
use Rattle.std.proofs.lemmas.Option.{slice_get_within}
use Rattle.std.proofs.lemmas.Bool.Decides.{nat_tests}
use Rattle.palm_base.specs.Key.{key}
use Rattle.palm_base.specs.Table.{row_key, lies_within, after_all, IsTable}
use Rattle.palm_base.specs.declared.row.Row.{Row}
use Rattle.palm_base.specs.declared.call.Call.{Call}
use Rattle.palm_base.specs.declared.call.Reply.TheVariants.{Rows}
use Rattle.palm_base.proofs.Tables.{Below, below_all, filter_keeps}
use Rattle.palm_base.proofs.Filters.{filter_both}
use Rattle.palm_base.specs.LookUps.{NoEditAt, IsBetween}
use Rattle.palm_base.specs.LookLaws.{ListsHold, FullListsHold}
use Rattle.palm_base.proofs.KeptRows.{keyed, keyed_kept, table_kept, no_edit_weaker}

-- A key that passes the test lies between.
between : (from to k : ℕ) → (nat_le from k && nat_le k to) ≡ true → IsBetween from to k
between from to k passes = record { least = grind (arith, nat_tests); most = grind (arith, nat_tests) }

-- The rows within a range are kept where no edit is in it.
pub within_kept : (from to : ℕ) (rows : List Row) (calls : List Call) → NoEditAt (IsBetween from to) calls
    → filter (lies_within from to) (after_all rows calls) ≡ filter (lies_within from to) rows
within_kept from to rows calls none =
    keyed_kept (λ k. nat_le from k && nat_le k to) rows calls
    (no_edit_weaker (IsBetween from to) (λ k. (nat_le from k && nat_le k to) ≡ true) (between from to) calls none)

pub lists_hold : ListsHold
lists_hold rows calls from to limit none = ap (λ (found : List Row). Rows (take limit found)) (within_kept (key from) (key to) rows calls none)

-- Keys above a bound.
above_none : (k : ℕ) (rows : List Row) → Below k rows → keyed (λ j. nat_le j k) rows ≡ []
above_none k [] above = refl
above_none k (row ∷ rows) above = by (nat_le (row_key row) k) refl (above_none k rows above.1)
  where
    by : (b : Bool) → nat_le (row_key row) k ≡ b → keyed (λ j. nat_le j k) rows ≡ []
        → cond b (row ∷ keyed (λ j. nat_le j k) rows) (keyed (λ j. nat_le j k) rows) ≡ []
    by true is rest = let above : k < row_key row = above.0 in absurd (grind (arith, nat_tests))
    by false not rest = rest

-- The rows of a table up to a key are its first rows.
take_up_to : (k : ℕ) (rows : List Row) → IsTable rows → take (length (keyed (λ j. nat_le j k) rows)) rows ≡ keyed (λ j. nat_le j k) rows
take_up_to k [] table = refl
take_up_to k (row ∷ rows) table = by (nat_le (row_key row) k) refl (take_up_to k rows table.1)
  where
    by : (b : Bool) → nat_le (row_key row) k ≡ b → take (length (keyed (λ j. nat_le j k) rows)) rows ≡ keyed (λ j. nat_le j k) rows
        → take (length (cond b (row ∷ keyed (λ j. nat_le j k) rows) (keyed (λ j. nat_le j k) rows))) (row ∷ rows)
        ≡ cond b (row ∷ keyed (λ j. nat_le j k) rows) (keyed (λ j. nat_le j k) rows)
    by true is rest = ap (λ (more : List Row). row ∷ more) rest
    by false not rest =
        let past : k < row_key row = grind (arith, nat_tests) in
        rw (above_none k rows (below_all k (row_key row) rows (omega arith) table.0)) refl

-- What each item has, the item at a place has.
every_place : {X : Type 0} (P : X → Type 0) (xs : List X) (n : ℕ) (x : X) → AllByRecursion P xs → slice_get xs n ≡ Some x → P x
every_place P [] n x all at = cc
every_place P (y ∷ ys) zero x all at = let same : y ≡ x = cc in subst P same all.0
every_place P (y ∷ ys) (suc n) x all at = every_place P ys n x all.1 at

-- An item that a test lets through passes it.
passed : {X : Type 0} (test : X → Bool) (xs : List X) (n : ℕ) (x : X) → slice_get (filter test xs) n ≡ Some x → test x ≡ true
passed {X = X} test xs n x at = every_place (λ y. test y ≡ true) (filter test xs) n x (all_pass xs) at
  where
    all_pass : (ys : List X) → AllByRecursion (λ y. test y ≡ true) (filter test ys)
    all_pass [] = tt
    all_pass (y ∷ ys) = by (test y) refl (all_pass ys)
      where
        by : (b : Bool) → test y ≡ b → AllByRecursion (λ y. test y ≡ true) (filter test ys)
            → AllByRecursion (λ y. test y ≡ true) (cond b (y ∷ filter test ys) (filter test ys))
        by true is rest = (is, rest)
        by false not rest = rest

-- The rows of a table up to that at a place are those before it and it.
up_to_place : (n : ℕ) (rows : List Row) (last : Row) → IsTable rows → slice_get rows n ≡ Some last
    → keyed (λ j. nat_le j (row_key last)) rows ≡ take (suc n) rows
up_to_place n [] last table at = cc
up_to_place zero (row ∷ rows) last table at =
    let same : row_key row ≡ row_key last = cc in
    let own : nat_le (row_key row) (row_key last) ≡ true = grind (arith, nat_tests) in
    let above : Below (row_key last) rows = below_all (row_key last) (row_key row) rows (omega arith) table.0 in
    rw (own, above_none (row_key last) rows above) refl
up_to_place (suc n) (row ∷ rows) last table at =
    let less : row_key row < row_key last = every_place (λ later. row_key row < row_key later) rows n last table.0 at in
    let own : nat_le (row_key row) (row_key last) ≡ true = grind (arith, nat_tests) in
    rw own (ap (λ (more : List Row). row ∷ more) (up_to_place n rows last table.1 at))

slice_get_take : {X : Type 0} (n : ℕ) (xs : List X) → slice_get (take (suc n) xs) n ≡ slice_get xs n
slice_get_take n [] = refl
slice_get_take zero (x ∷ xs) = refl
slice_get_take (suc n) (x ∷ xs) = slice_get_take n xs

-- The rows within a range up to a key in it.
within_up_to : (from to k : ℕ) → k ≤ to → (rows : List Row)
    → filter (lies_within from k) rows ≡ keyed (λ j. nat_le j k) (filter (lies_within from to) rows)
within_up_to from to k inside rows =
    filter_both (lies_within from k) (lies_within from to) (λ row. nat_le (row_key row) k) (λ row. tests (row_key row)) rows
  where
    tests : (j : ℕ) → (nat_le from j && nat_le j k) ≡ ((nat_le from j && nat_le j to) && nat_le j k)
    tests j = grind (arith, nat_tests)

-- Where the rows within a range up to one at a place are those of another table, so are the first rows up to the place.
pub first_alike : (from to n : ℕ) (rows others : List Row) (last : Row) → IsTable rows → IsTable others
    → slice_get (filter (lies_within from to) rows) n ≡ Some last
    → filter (lies_within from (row_key last)) others ≡ filter (lies_within from (row_key last)) rows
    → take (suc n) (filter (lies_within from to) others) ≡ take (suc n) (filter (lies_within from to) rows)
first_alike from to n rows others last table other at alike =
    let k : ℕ = row_key last in
    let found : List Row = filter (lies_within from to) rows in
    let again : List Row = filter (lies_within from to) others in
    let passes : lies_within from to last ≡ true = passed (lies_within from to) rows n last at in
    let inside : row_key last ≤ to = grind (arith, nat_tests) in
    let up : keyed (λ j. nat_le j (row_key last)) found ≡ take (suc n) found = up_to_place n found last (filter_keeps (lies_within from to) rows table) at in
    let same : keyed (λ j. nat_le j (row_key last)) again ≡ take (suc n) found =
    sym (within_up_to from to k inside others) ∙ alike ∙ within_up_to from to k inside rows ∙ up in
    let long : length (take (suc n) found) ≡ suc n = length-take-le (suc n) found (omega (arith, slice_get_within found n last at)) in
    let first = take_up_to k again (filter_keeps (lies_within from to) others other) in
    rw (same, long) at first

pub full_lists_hold : FullListsHold
full_lists_hold rows shown calls from to n last table is at none =
    let found : List Row = filter (lies_within (key from) (key to)) rows in
    let first : take (suc n) found ≡ shown = rw add-one at (rows_same (take (n + 1) found) shown is) in
    let place : slice_get found n ≡ Some last = sym (slice_get_take n found) ∙ ap (λ (some : List Row). slice_get some n) first ∙ at in
    let kept = first_alike (key from) (key to) n rows (after_all rows calls) last table (table_kept rows calls table) place (within_kept (key from) (row_key last) rows calls none) in
    rw add-one (ap Rows (kept ∙ first))
  where
    rows_same : (xs ys : List Row) → Rows xs ≡ Rows ys → xs ≡ ys
    rows_same xs ys same = cc
