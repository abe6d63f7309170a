-- Rows held as keys and rates, side by side.
use Rattle.std.proofs.Common.{◌≡◌, ℕ, zero, suc, ◌<◌, ◌≤◌, List, [], ◌∷◌, ◌++◌, length, take, set, get_or, None, Some, refl, ap, sym, subst, ◌∙◌, arith}
use Rattle.std.specs.Prelude.{slice_get, Contains}
use Rattle.std.specs.List.{AllByRecursion}
use Rattle.std.proofs.lemmas.Bool.{eq-eqb, ne_eqb}
use Rattle.std.proofs.lemmas.List.{length-take}
use Rattle.std.proofs.lemmas.Option.{slice_get_within}
use Rattle.std.proofs.lemmas.List.Elements.{All-from_recursion}
use Rattle.palm_base.specs.Prefix.{IsPrefix}
use Rattle.palm_base.specs.Key.{key, digits_of, IsKey}
use Rattle.palm_base.proofs.Keys.{digits_of-key}
use Rattle.palm_base.specs.Table.{row_key, rate_at, IsTable}
use Rattle.palm_base.specs.declared.row.Row.{Row}
use Rattle.palm_node.specs.LeafRows.{IsLeaf, rows_of, HoldsRows}

-- The row of a key and a rate.
abbrev pub row_of : ℕ → ℕ → Row
row_of key rate = record { prefix = digits_of key; rate = rate }

-- As many keys as there are rates are keys of prefixes.
abbrev pub AreKeys : List ℕ → List ℕ → Type 0
AreKeys keys rates = AllByRecursion IsKey (take (length rates) keys)

pub length-rows_of : (keys rates : List ℕ) → length rates ≤ length keys → length (rows_of keys rates) ≡ length rates
length-rows_of keys [] few = refl
length-rows_of [] (rate ∷ rates) few = absurd (omega arith)
length-rows_of (key ∷ keys) (rate ∷ rates) few = ap suc (length-rows_of keys rates (omega arith))

pub rows_of-push : (keys rates : List ℕ) (key rate : ℕ) → length rates < length keys
    → rows_of (set keys (length rates) key) (rates ++ rate ∷ []) ≡ rows_of keys rates ++ row_of key rate ∷ []
rows_of-push [] rates key rate few = absurd (omega arith)
rows_of-push (k ∷ keys) [] key rate few = refl
rows_of-push (k ∷ keys) (r ∷ rates) key rate few = ap (λ (rows : List Row). row_of k r ∷ rows) (rows_of-push keys rates key rate (omega arith))

-- The key and the rate of one more row hold it at the end.
pub push_row : (keys rates : List ℕ) (row : Row) (word : ℕ) → length rates < length keys → IsPrefix row.prefix → word ≡ key row.prefix
    → rows_of (set keys (length rates) word) (rates ++ row.rate ∷ []) ≡ rows_of keys rates ++ row ∷ []
push_row keys rates row word few prefix is =
    let same : digits_of word ≡ row.prefix = ap digits_of is ∙ digits_of-key row.prefix prefix in
    let whole : row_of word row.rate ≡ row = ap (λ (digits : List ℕ). record { prefix = digits; rate = row.rate }) same in
    rows_of-push keys rates word row.rate few ∙ ap (λ (last : Row). rows_of keys rates ++ last ∷ []) whole

pub rows_of-at : (keys rates : List ℕ) (i : ℕ) → length rates ≤ length keys → i < length rates
    → slice_get (rows_of keys rates) i ≡ Some (row_of (get_or keys i 0) (get_or rates i 0))
rows_of-at keys [] i few inside = absurd (omega arith)
rows_of-at [] (rate ∷ rates) i few inside = absurd (omega arith)
rows_of-at (key ∷ keys) (rate ∷ rates) zero few inside = refl
rows_of-at (key ∷ keys) (rate ∷ rates) (suc i) few inside = rows_of-at keys rates i (omega arith) (omega arith)

-- What holds of the first so many holds at each of their places.
pub front_at : {X : Type 0} (P : X → Type 0) (n : ℕ) (xs : List X) (i : ℕ) (d : X) → n ≤ length xs → i < n → AllByRecursion P (take n xs) → P (get_or xs i d)
front_at P zero xs i d few inside all = absurd (omega arith)
front_at P (suc n) [] i d few inside all = absurd (omega arith)
front_at P (suc n) (x ∷ xs) zero d few inside all = all.0
front_at P (suc n) (x ∷ xs) (suc i) d few inside all = front_at P n xs i d (omega arith) (omega arith) all.1

-- One more is written after the first so many.
pub front_more : {X : Type 0} (P : X → Type 0) (i : ℕ) (xs : List X) (x : X) → i < length xs → P x → AllByRecursion P (take i xs)
    → AllByRecursion P (take (suc i) (set xs i x))
front_more P i [] x inside is all = absurd (omega arith)
front_more P zero (first ∷ xs) x inside is all = (is, tt)
front_more P (suc i) (first ∷ xs) x inside is all = (all.0, front_more P i xs x (omega arith) is all.1)

pub prefixes_of : (keys rates : List ℕ) → AreKeys keys rates → AllByRecursion (λ (row : Row). IsPrefix row.prefix) (rows_of keys rates)
prefixes_of keys [] all = tt
prefixes_of [] (rate ∷ rates) all = tt
prefixes_of (key ∷ keys) (rate ∷ rates) all = (all.0.prefix, prefixes_of keys rates all.1)

-- A leaf's rows are as many as its rates.
pub length_held : {rows : List Row} (keys rates : List ℕ) → HoldsRows keys rates → rows_of keys rates ≡ rows → length rows ≡ length rates
length_held keys rates held view = ap length (sym view) ∙ length-rows_of keys rates (omega (arith, held.room, held.few))

-- What is held is a leaf.
pub leaf_held : {rows : List Row} (keys rates : List ℕ) → HoldsRows keys rates → rows_of keys rates ≡ rows → IsLeaf rows
leaf_held keys rates held view =
    let whole : IsLeaf (rows_of keys rates) = record {
      few = omega (arith, held.few, length_held keys rates held refl);
      table = held.table;
      prefixes = All-from_recursion (λ (row : Row). IsPrefix row.prefix) (rows_of keys rates) (prefixes_of keys rates held.prefixes);
    } in
    subst IsLeaf view whole

-- ---- look-ups

-- A key found among the first so many stands at one of those places.
pub place_within : (keys : List ℕ) (n i key : ℕ) → slice_get (take n keys) i ≡ Some key → i < n
place_within keys n i key at =
    let within : i < length (take n keys) = slice_get_within (take n keys) i key at in
    omega (arith, length-take n keys)

-- What lies below all rows lies below each key of theirs.
pub below_key : (low : ℕ) (keys rates : List ℕ) (i key : ℕ) → AreKeys keys rates → AllByRecursion (λ (row : Row). low < row_key row) (rows_of keys rates)
    → slice_get (take (length rates) keys) i ≡ Some key → low < key
below_key low keys [] i key all below at = absurd (cc)
below_key low [] (rate ∷ rates) i key all below at = absurd (cc)
below_key low (k ∷ keys) (rate ∷ rates) zero key all below at =
    let same : k ≡ key = cc in
    let whole : row_key (row_of k rate) ≡ k = all.0.whole in
    let first : low < row_key (row_of k rate) = below.0 in
    omega arith
below_key low (k ∷ keys) (rate ∷ rates) (suc i) key all below at = below_key low keys rates i key all.1 below.1 at

pub rate_at-found : (keys rates : List ℕ) (i key : ℕ) → AreKeys keys rates → IsTable (rows_of keys rates)
    → slice_get (take (length rates) keys) i ≡ Some key → rate_at key (rows_of keys rates) ≡ Some (get_or rates i 0)
rate_at-found keys [] i key all table at = absurd (cc)
rate_at-found [] (rate ∷ rates) i key all table at = absurd (cc)
rate_at-found (k ∷ keys) (rate ∷ rates) zero key all table at =
    let same : k ≡ key = cc in
    rw (eq-eqb (row_key (row_of k rate)) key (all.0.whole ∙ same))
rate_at-found (k ∷ keys) (rate ∷ rates) (suc i) key all table at =
    let below : row_key (row_of k rate) < key = below_key (row_key (row_of k rate)) keys rates i key all.1 table.0 at in
    rw (ne_eqb (row_key (row_of k rate)) key (λ e. omega arith)) (rate_at-found keys rates i key all.1 table.1 at)

pub rate_at-none : (keys rates : List ℕ) (key : ℕ) → AreKeys keys rates → (Contains (take (length rates) keys) key → ⊥) → rate_at key (rows_of keys rates) ≡ None
rate_at-none keys [] key all none = refl
rate_at-none [] (rate ∷ rates) key all none = refl
rate_at-none (k ∷ keys) (rate ∷ rates) key all none =
    let whole : row_key (row_of k rate) ≡ k = all.0.whole in
    rw (ne_eqb (row_key (row_of k rate)) key (λ e. none (0, omega arith, sym whole ∙ e)))
    (rate_at-none keys rates key all.1 (λ there. none (suc there.0, omega (arith, there.1), there.2)))
