-- A table in two parts, on the two sides of a separator: what calls leave of it is what they leave of each part.
use Rattle.std.proofs.Common.{◌≡◌, ℕ, ◌<◌, ◌≤◌, Bool, true, false, cond, not, ◌==◌, List, [], ◌∷◌, ◌++◌, filter, refl, ap, arith, ◌⊎◌, inl, inr}
use Rattle.std.specs.List.{AllByRecursion}
use Rattle.std.proofs.lemmas.Bool.{cases_order, cases_lt, lt-ltb, le-ltb, ne_eqb, lt-leb, le-leb, ltb-true, leb-true}
use Rattle.std.proofs.lemmas.List.Elements.{filter-append}
use Rattle.palm_base.specs.Key.{key}
use Rattle.palm_base.specs.Table.{row_key, put, without, after, after_all}
use Rattle.palm_base.specs.Pass.{edit_key, goes_left, goes_right}
use Rattle.palm_base.proofs.Every.{every_filter}
use Rattle.palm_base.proofs.Tables.{Order, put_before, put_at, put_past, every_put}
use Rattle.palm_base.specs.declared.row.Row.{Row}
use Rattle.palm_base.specs.declared.call.Call.{Call}
use Rattle.palm_base.specs.declared.call.Call.TheVariants.{Set, Del, Get, Rate, List as Listing}

-- The rows lie left of the separator k.
abbrev pub Under : ℕ → List Row → Type 0
Under k = AllByRecursion (λ row. row_key row < k)

-- They lie right of it.
abbrev pub From : ℕ → List Row → Type 0
From k = AllByRecursion (λ row. k ≤ row_key row)

-- ---- one row

put_front : (new : Row) (k : ℕ) (right : List Row) → row_key new < k → From k right → put new right ≡ new ∷ right
put_front new k [] less from = refl
put_front new k (row ∷ right) less from = put_before new row right (omega arith)

pub put_left : (new : Row) (k : ℕ) (left right : List Row) → row_key new < k → From k right → put new (left ++ right) ≡ put new left ++ right
put_left new k [] right less from = put_front new k right less from
put_left new k (row ∷ left) right less from = by (put_left new k left right less from) (cases_order (row_key new) (row_key row))
  where
    by : put new (left ++ right) ≡ put new left ++ right → Order new row → put new (row ∷ left ++ right) ≡ put new (row ∷ left) ++ right
    by rest (inl e) = rw (put_at new row (left ++ right) e, put_at new row left e)
    by rest (inr (inl l)) = rw (put_before new row (left ++ right) l, put_before new row left l)
    by rest (inr (inr g)) = rw (put_past new row (left ++ right) g, put_past new row left g) (ap (λ rows. row ∷ rows) rest)

pub put_right : (new : Row) (k : ℕ) (left right : List Row) → k ≤ row_key new → Under k left → put new (left ++ right) ≡ left ++ put new right
put_right new k [] right least under = refl
put_right new k (row ∷ left) right least under =
    rw (put_past new row (left ++ right) (omega arith)) (ap (λ rows. row ∷ rows) (put_right new k left right least under.1))

without_left : (k gone : ℕ) (right : List Row) → gone < k → From k right → without gone right ≡ right
without_left k gone [] less from = refl
without_left k gone (row ∷ right) less from =
    rw (ne_eqb (row_key row) gone (λ e. omega arith)) (ap (λ rows. row ∷ rows) (without_left k gone right less from.1))

without_right : (k gone : ℕ) (left : List Row) → k ≤ gone → Under k left → without gone left ≡ left
without_right k gone [] least under = refl
without_right k gone (row ∷ left) least under =
    rw (ne_eqb (row_key row) gone (λ e. omega arith)) (ap (λ rows. row ∷ rows) (without_right k gone left least under.1))

-- ---- one call

-- What a call leaves of the rows of one side, where the test says whether it goes to that side.
abbrev on : Bool → List Row → Call → List Row
on goes rows call = cond goes (after rows call) rows

on_same : (goes : Bool) (rows : List Row) → cond goes rows rows ≡ rows
on_same true rows = refl
on_same false rows = refl

after_split : (k : ℕ) (left right : List Row) (call : Call) → Under k left → From k right
    → after (left ++ right) call ≡ on (goes_left k call) left call ++ on (goes_right k call) right call
after_split k left right (Set prefix rate) under from = by (cases_lt (key prefix) k)
  where
    by : (key prefix < k) ⊎ (k ≤ key prefix)
        → after (left ++ right) (Set prefix rate) ≡ on (goes_left k (Set prefix rate)) left (Set prefix rate)
        ++ on (goes_right k (Set prefix rate)) right (Set prefix rate)
    by (inl l) = rw (lt-ltb (key prefix) k l, lt-leb k (key prefix) l) (put_left (record { prefix = prefix; rate = rate }) k left right l from)
    by (inr g) = rw (le-ltb (key prefix) k g, le-leb k (key prefix) g) (put_right (record { prefix = prefix; rate = rate }) k left right g under)
after_split k left right (Del prefix) under from = by (cases_lt (key prefix) k)
  where
    by : (key prefix < k) ⊎ (k ≤ key prefix)
        → after (left ++ right) (Del prefix) ≡ on (goes_left k (Del prefix)) left (Del prefix) ++ on (goes_right k (Del prefix)) right (Del prefix)
    by (inl l) =
        rw (lt-ltb (key prefix) k l, lt-leb k (key prefix) l, filter-append)
        (ap (λ rows. without (key prefix) left ++ rows) (without_left k (key prefix) right l from))
    by (inr g) =
        rw (le-ltb (key prefix) k g, le-leb k (key prefix) g, filter-append)
        (ap (λ rows. rows ++ without (key prefix) right) (without_right k (key prefix) left g under))
after_split k left right (Get prefix) under from = rw (on_same (goes_left k (Get prefix)) left, on_same (goes_right k (Get prefix)) right)
after_split k left right (Rate number) under from = rw (on_same (goes_left k (Rate number)) left, on_same (goes_right k (Rate number)) right)
after_split k left right (Listing from to limit) under from-k =
    rw (on_same (goes_left k (Listing from to limit)) left, on_same (goes_right k (Listing from to limit)) right)

-- ---- what calls add

-- The call puts a row in.
abbrev pub is_set : Call → Bool
is_set (Set prefix rate) = true
is_set (Del prefix) = false
is_set (Get prefix) = false
is_set (Rate number) = false
is_set (Listing from to limit) = false

-- The key of the row that a call puts in, if it does, has the property.
abbrev pub Adds : (ℕ → Type 0) → Call → Type 0
Adds P call = is_set call ≡ true → P (edit_key call)

after_adds : (P : ℕ → Type 0) (rows : List Row) (call : Call) → AllByRecursion (λ row. P (row_key row)) rows → Adds P call
    → AllByRecursion (λ row. P (row_key row)) (after rows call)
after_adds P rows (Set prefix rate) all adds = every_put (λ row. P (row_key row)) (record { prefix = prefix; rate = rate }) rows (adds refl) all
after_adds P rows (Del prefix) all adds =
    every_filter (λ row. P (row_key row)) (λ row. P (row_key row)) (λ row. not (row_key row == key prefix)) (λ row has passes. has) rows all
after_adds P rows (Get prefix) all adds = all
after_adds P rows (Rate number) all adds = all
after_adds P rows (Listing from to limit) all adds = all

-- What the keys of all rows have, and those of the rows that calls put in, the keys of all rows have after.
pub all_add : (P : ℕ → Type 0) (rows : List Row) (calls : List Call) → AllByRecursion (λ row. P (row_key row)) rows → AllByRecursion (Adds P) calls
    → AllByRecursion (λ row. P (row_key row)) (after_all rows calls)
all_add P rows [] all adds = all
all_add P rows (call ∷ calls) all adds = all_add P (after rows call) calls (after_adds P rows call all adds.0) adds.1

-- ---- all calls

on_adds : (P : ℕ → Type 0) (goes : Bool) (rows : List Row) (call : Call) → AllByRecursion (λ row. P (row_key row)) rows → (goes ≡ true → Adds P call)
    → AllByRecursion (λ row. P (row_key row)) (on goes rows call)
on_adds P true rows call all adds = after_adds P rows call all (adds refl)
on_adds P false rows call all adds = all

on_first : (goes : Bool) (rows : List Row) (call : Call) (calls : List Call)
    → after_all (on goes rows call) calls ≡ after_all rows (cond goes (call ∷ calls) calls)
on_first true rows call calls = refl
on_first false rows call calls = refl

-- Calls on a table in two parts are calls on each part, by those that go to it.
pub all_split : (k : ℕ) (left right : List Row) (calls : List Call) → Under k left → From k right
    → after_all (left ++ right) calls ≡ after_all left (filter (goes_left k) calls) ++ after_all right (filter (goes_right k) calls)
all_split k left right [] under from = refl
all_split k left right (call ∷ calls) under from =
    let less = on_adds (λ i. i < k) (goes_left k call) left call under (λ goes set. ltb-true (edit_key call) k goes) in
    let least = on_adds (λ i. k ≤ i) (goes_right k call) right call from (λ goes set. leb-true k (edit_key call) goes) in
    let rest = all_split k (on (goes_left k call) left call) (on (goes_right k call) right call) calls less least in
    let first_left = on_first (goes_left k call) left call (filter (goes_left k) calls) in
    let first_right = on_first (goes_right k call) right call (filter (goes_right k) calls) in
    rw (after_split k left right call under from, rest, first_left, first_right)
