-- A row put into those that keys and rates hold: the row of its key is written, or the keys from its place on move up.
use Rattle.std.proofs.Common.{◌≡◌, ◌≢◌, ℕ, zero, suc, ◌+◌, ◌-◌, ◌<◌, ◌≤◌, ◌⊎◌, inl, inr, leb, true, false, cond, List, [], ◌∷◌, ◌++◌, length, take, drop, set, Some, refl, ap, sym, subst, ◌∙◌, arith}
use Rattle.std.specs.Prelude.{slice_get, Contains}
use Rattle.std.specs.List.{AllByRecursion, count_by, insert}
use Rattle.std.proofs.lemmas.Bool.{lt-leb, le-leb, cases_lt}
use Rattle.std.proofs.lemmas.List.Sums.{sum_by-cons}
use Rattle.palm_base.specs.Prefix.{IsPrefix}
use Rattle.palm_base.specs.Key.{key, digits_of, IsKey}
use Rattle.palm_base.specs.Table.{row_key, put, IsTable}
use Rattle.palm_base.specs.declared.row.Row.{Row}
use Rattle.palm_base.proofs.Keys.{digits_of-key}
use Rattle.palm_base.proofs.Tables.{Below, put_before, put_at, put_past}
use Rattle.palm_node.specs.LeafRows.{opened, rows_of}
use Rattle.palm_node.proofs.HeldRows.{row_of, AreKeys, below_key}

-- How many of the first so many keys are at most k.
abbrev pub at_most : ℕ → ℕ → List ℕ → ℕ
at_most k count keys = count_by (λ a. leb a k) (take count keys)

-- Of the keys only as many count as there are rates.
rows_front : (keys more rates : List ℕ) → length rates ≤ length keys → rows_of (take (length rates) keys ++ more) rates ≡ rows_of keys rates
rows_front keys more [] few = refl
rows_front [] more (rate ∷ rates) few = absurd (omega arith)
rows_front (key ∷ keys) more (rate ∷ rates) few = ap (λ (rows : List Row). row_of key rate ∷ rows) (rows_front keys more rates (omega arith))

-- No key is at most one that is below all rows.
none_counted : (k : ℕ) (keys rates : List ℕ) → AreKeys keys rates → Below k (rows_of keys rates) → at_most k (length rates) keys ≡ 0
none_counted k keys [] all below = refl
none_counted k [] (rate ∷ rates) all below = refl
none_counted k (a ∷ keys) (rate ∷ rates) all below =
    let above : leb a k ≡ false = lt-leb a k (omega (arith, below.0, all.0.whole)) in
    sum_by-cons (λ x. cond (leb x k) 1 0) a (take (length rates) keys) ∙ rw above (omega (arith, none_counted k keys rates all.1 below.1))

below_less : (j k : ℕ) (rows : List Row) → j < k → Below k rows → Below j rows
below_less j k [] less below = tt
below_less j k (row ∷ rows) less below = (omega (arith, below.0), below_less j k rows less below.1)

-- A new row goes where its key is put in.
pub rows_opened : (keys rates : List ℕ) (place : ℕ) (row : Row) (k : ℕ) → length rates < length keys → AreKeys keys rates → IsTable (rows_of keys rates) → IsPrefix row.prefix → k ≡ key row.prefix
    → (Contains (take (length rates) keys) k → ⊥) → place ≡ at_most k (length rates) keys
    → rows_of (opened keys place (length rates) k) (insert rates place row.rate) ≡ put row (rows_of keys rates)
rows_opened [] rates place row k few all table prefix is none at = absurd (omega arith)
rows_opened (a ∷ keys) [] (suc place) row k few all table prefix is none at = absurd (omega arith)
rows_opened (a ∷ keys) [] zero row k few all table prefix is none at =
    ap (λ (digits : List ℕ). record { prefix = digits; rate = row.rate } ∷ []) (ap digits_of is ∙ digits_of-key row.prefix prefix)
rows_opened (a ∷ keys) (r ∷ rates) place row k few all table prefix is none at =
    by (cases_lt a k) place at (λ behind under stands. rows_opened keys rates behind row k (omega arith) all.1 table.1 prefix is under stands)
  where
    whole : row_key (row_of a r) ≡ a
    whole = all.0.whole

    counted : at_most k (suc (length rates)) (a ∷ keys) ≡ cond (leb a k) 1 0 + at_most k (length rates) keys
    counted = sum_by-cons (λ x. cond (leb x k) 1 0) a (take (length rates) keys)

    by : ((a < k) ⊎ (k ≤ a)) → (place : ℕ) → place ≡ at_most k (suc (length rates)) (a ∷ keys)
        → ((behind : ℕ) → (Contains (take (length rates) keys) k → ⊥) → behind ≡ at_most k (length rates) keys → rows_of (opened keys behind (length rates) k) (insert rates behind row.rate) ≡ put row (rows_of keys rates))
        → rows_of (opened (a ∷ keys) place (suc (length rates)) k) (insert (r ∷ rates) place row.rate) ≡ put row (row_of a r ∷ rows_of keys rates)
    by (inl less) zero at rest = absurd (omega (arith, at, rw (le-leb a k (omega arith)) at counted))
    by (inl less) (suc place) at rest =
        let stands : place ≡ at_most k (length rates) keys = omega (arith, at, rw (le-leb a k (omega arith)) at counted) in
        ap (λ (rows : List Row). row_of a r ∷ rows) (rest place (λ there. none (suc there.0, omega (arith, there.1), there.2)) stands)
        ∙ sym (put_past row (row_of a r) (rows_of keys rates) (omega (arith, whole, is)))
    by (inr more) place at rest =
        let other : k ≢ a = λ e. none (0, omega arith, sym e) in
        let less : k < a = omega (arith, more, other) in
        let none_more : at_most k (length rates) keys ≡ 0 = none_counted k keys rates all.1 (below_less k (row_key (row_of a r)) (rows_of keys rates) (omega (arith, less, whole)) table.0) in
        let first : place ≡ 0 = omega (arith, at, none_more, rw (lt-leb a k less) at counted) in
        let whole_row : row_of k row.rate ≡ row = ap (λ (digits : List ℕ). record { prefix = digits; rate = row.rate }) (ap digits_of is ∙ digits_of-key row.prefix prefix) in
        rw first
        (ap (λ (rows : List Row). row_of k row.rate ∷ row_of a r ∷ rows) (rows_front keys _ rates (omega arith))
        ∙ ap (λ (new : Row). new ∷ row_of a r ∷ rows_of keys rates) whole_row
        ∙ sym (put_before row (row_of a r) (rows_of keys rates) (omega (arith, less, whole, is))))

-- The row of a key that is found is written.
pub rows_written : (keys rates : List ℕ) (place : ℕ) (row : Row) (k : ℕ) → length rates ≤ length keys → AreKeys keys rates → IsTable (rows_of keys rates) → IsPrefix row.prefix → k ≡ key row.prefix
    → slice_get (take (length rates) keys) place ≡ Some k → rows_of keys (set rates place row.rate) ≡ put row (rows_of keys rates)
rows_written keys [] place row k few all table prefix is at = absurd cc
rows_written [] (r ∷ rates) place row k few all table prefix is at = absurd (omega arith)
rows_written (a ∷ keys) (r ∷ rates) zero row k few all table prefix is at =
    let same : a ≡ k = cc in
    let whole_row : row_of a row.rate ≡ row = ap (λ (digits : List ℕ). record { prefix = digits; rate = row.rate }) (ap digits_of (same ∙ is) ∙ digits_of-key row.prefix prefix) in
    ap (λ (new : Row). new ∷ rows_of keys rates) whole_row ∙ sym (put_at row (row_of a r) (rows_of keys rates) (omega (arith, all.0.whole, same, is)))
rows_written (a ∷ keys) (r ∷ rates) (suc place) row k few all table prefix is at =
    let below : row_key (row_of a r) < k = below_key (row_key (row_of a r)) keys rates place k all.1 table.0 at in
    ap (λ (rows : List Row). row_of a r ∷ rows) (rows_written keys rates place row k (omega arith) all.1 table.1 prefix is at)
    ∙ sym (put_past row (row_of a r) (rows_of keys rates) (omega (arith, below, is)))

-- The front that was kept is the front still.
front_kept : (P : ℕ → Type 0) (count : ℕ) (keys more : List ℕ) → count ≤ length keys → AllByRecursion P (take count keys) → AllByRecursion P (take count (take count keys ++ more))
front_kept P zero keys more few all = tt
front_kept P (suc count) [] more few all = absurd (omega arith)
front_kept P (suc count) (key ∷ keys) more few all = (all.0, front_kept P count keys more (omega arith) all.1)

-- The keys are still those of prefixes.
pub keys_opened : (keys : List ℕ) (count place : ℕ) (k : ℕ) → count < length keys → place ≤ count → IsKey k → AllByRecursion IsKey (take count keys)
    → AllByRecursion IsKey (take (suc count) (opened keys place count k))
keys_opened [] count place k few within is all = absurd (omega arith)
keys_opened (a ∷ keys) zero zero k few within is all = (is, tt)
keys_opened (a ∷ keys) zero (suc place) k few within is all = absurd (omega arith)
keys_opened (a ∷ keys) (suc count) zero k few within is all = (is, front_kept IsKey (suc count) (a ∷ keys) _ (omega arith) all)
keys_opened (a ∷ keys) (suc count) (suc place) k few within is all = (all.0, keys_opened keys count place k (omega arith) (omega arith) is all.1)

-- ---- how the keys move

-- Keys that are copied up by one, and a key that is written at the place that comes free.
pub moved_up : (keys : List ℕ) (place count next many end : ℕ) (k : ℕ) → next ≡ place + 1 → many + place ≡ count → end ≡ count + 1 → count < length keys
    → set (take next keys ++ take many (drop place keys) ++ drop end keys) place k ≡ opened keys place count k
moved_up [] place count next many end k is most last few = absurd (omega arith)
moved_up (a ∷ keys) zero count next many end k is most last few =
    let first : next ≡ 1 = omega arith in
    let all : many ≡ count = omega arith in
    let behind : end ≡ suc count = omega arith in
    rw (first, all, behind) refl
moved_up (a ∷ keys) (suc place) zero next many end k is most last few = absurd (omega arith)
moved_up (a ∷ keys) (suc place) (suc count) zero many end k is most last few = absurd (omega arith)
moved_up (a ∷ keys) (suc place) (suc count) (suc next) many zero k is most last few = absurd (omega arith)
moved_up (a ∷ keys) (suc place) (suc count) (suc next) many (suc end) k is most last few =
    ap (λ (rest : List ℕ). a ∷ rest) (moved_up keys place count next many end k (omega arith) (omega arith) (omega arith) (omega arith))
