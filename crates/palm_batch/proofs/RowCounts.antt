-- A batch's replies tell by how many rows a table grows: New by one more, and Gone by one less.
use Rattle.std.proofs.Common.{◌≡◌, ℕ, suc, ◌<◌, ◌+◌, ◌⊎◌, cond, List, [], ◌∷◌, length, refl, ap, subst, arith, Some, None, inl, inr}
use Rattle.std.specs.Prelude.{Option, count_by}
use Rattle.std.specs.List.{AllByRecursion}
use Rattle.std.proofs.lemmas.Bool.{ne_eqb, eq-eqb, cases_order}
use Rattle.std.proofs.lemmas.List.Sums.{sum_by-cons}
use Rattle.palm_base.specs.Table.{row_key, rate_at, put, without, new_or_was, or_absent, best_for, answer, after, IsTable}
use Rattle.palm_base.specs.History.{replies_to, table_after}
use Rattle.palm_base.specs.declared.row.Row.{Row}
use Rattle.palm_base.specs.declared.call.Call.{Call}
use Rattle.palm_base.specs.declared.call.Call.TheVariants.{Set, Del, Get, Rate, List as Listing}
use Rattle.palm_base.specs.declared.call.Entry.{Entry}
use Rattle.palm_base.specs.declared.call.Reply.{Reply}
use Rattle.palm_base.specs.declared.call.Reply.TheVariants.{Gone, Value, Hit}
use Rattle.palm_base.proofs.Tables.{Order, put_before, put_at, put_past, calls_keep_tables}
use Rattle.palm_batch.specs.Replies.{is_new, is_gone}

-- How many rows a reply tells of that were put in, and taken out.
abbrev more : Reply → ℕ
more reply = cond (is_new reply) 1 0

abbrev less : Reply → ℕ
less reply = cond (is_gone reply) 1 0

-- ---- a Set

none_above : (k : ℕ) (rows : List Row) → AllByRecursion (λ row. k < row_key row) rows → rate_at k rows ≡ None
none_above k [] above = refl
none_above k (row ∷ rows) above = rw (ne_eqb (row_key row) k (λ e. let a = above.0 in omega (arith, e))) (none_above k rows above.1)

above_all : (j k : ℕ) (rows : List Row) → j < k → AllByRecursion (λ row. k < row_key row) rows → AllByRecursion (λ row. j < row_key row) rows
above_all j k [] before above = tt
above_all j k (row ∷ rows) before above = ((let a = above.0 in omega arith), above_all j k rows before above.1)

put_counts : (new : Row) (rows : List Row) → IsTable rows → length (put new rows) ≡ length rows + more (new_or_was (rate_at (row_key new) rows))
put_counts new [] table = refl
put_counts new (row ∷ rows) table = by (cases_order (row_key new) (row_key row)) (put_counts new rows table.1)
  where
    by : Order new row → length (put new rows) ≡ length rows + more (new_or_was (rate_at (row_key new) rows))
        → length (put new (row ∷ rows)) ≡ length (row ∷ rows) + more (new_or_was (rate_at (row_key new) (row ∷ rows)))
    by (inl e) rest = rw (put_at new row rows e, eq-eqb (row_key row) (row_key new) (omega (arith, e))) (omega arith)
    by (inr (inl l)) rest =
        rw (put_before new row rows l, none_above (row_key new) (row ∷ rows) (l, above_all (row_key new) (row_key row) rows l table.0)) (omega arith)
    by (inr (inr g)) rest = rw (put_past new row rows g, ne_eqb (row_key row) (row_key new) (λ e. omega (arith, g, e))) (omega (arith, rest))

-- ---- a Del

all_others : (k : ℕ) (rows : List Row) → AllByRecursion (λ row. k < row_key row) rows → length (without k rows) ≡ length rows
all_others k [] above = refl
all_others k (row ∷ rows) above = rw (ne_eqb (row_key row) k (λ e. let a = above.0 in omega (arith, e))) (ap suc (all_others k rows above.1))

without_counts : (k : ℕ) (rows : List Row) → IsTable rows → length (without k rows) + less (or_absent Gone (rate_at k rows)) ≡ length rows
without_counts k [] table = refl
without_counts k (row ∷ rows) table = by (cases_order (row_key row) k) (without_counts k rows table.1)
  where
    by : (row_key row ≡ k) ⊎ (row_key row < k) ⊎ (k < row_key row) → length (without k rows) + less (or_absent Gone (rate_at k rows)) ≡ length rows
        → length (without k (row ∷ rows)) + less (or_absent Gone (rate_at k (row ∷ rows))) ≡ length (row ∷ rows)
    by (inl e) rest =
        let others = all_others k rows (subst (λ j. AllByRecursion (λ later. j < row_key later) rows) e table.0) in
        rw (eq-eqb (row_key row) k e) (omega (arith, others))
    by (inr (inl l)) rest = rw (ne_eqb (row_key row) k (λ e. omega (arith, l, e))) (omega (arith, rest))
    by (inr (inr g)) rest = rw (ne_eqb (row_key row) k (λ e. omega (arith, g, e))) (omega (arith, rest))

-- ---- a batch

absent_counts : {X : Type 0} (found : X → Reply) (x : Option X) → ((x : X) → (more (found x) ≡ 0) × (less (found x) ≡ 0)) → (more (or_absent found x) ≡ 0) × (less (or_absent found x) ≡ 0)
absent_counts found None each = (refl, refl)
absent_counts found (Some x) each = each x

set_takes_none : (old : Option ℕ) → less (new_or_was old) ≡ 0
set_takes_none None = refl
set_takes_none (Some old) = refl

del_puts_none : (old : Option ℕ) → more (or_absent Gone old) ≡ 0
del_puts_none None = refl
del_puts_none (Some old) = refl

call_counts : (rows : List Row) (call : Call) → IsTable rows → length (after rows call) + less (answer rows call) ≡ length rows + more (answer rows call)
call_counts rows (Set prefix rate) table =
    let new = put_counts (record { prefix = prefix; rate = rate }) rows table in
    let none = set_takes_none (rate_at (row_key (record { prefix = prefix; rate = rate })) rows) in
    omega (arith, new, none)
call_counts rows (Del prefix) table =
    let gone = without_counts (row_key (record { prefix = prefix; rate = 0 })) rows table in
    let none = del_puts_none (rate_at (row_key (record { prefix = prefix; rate = 0 })) rows) in
    omega (arith, gone, none)
call_counts rows (Get prefix) table = let none = absent_counts Value (rate_at (row_key (record { prefix = prefix; rate = 0 })) rows) (λ x. (refl, refl)) in omega (arith, none.0, none.1)
call_counts rows (Rate number) table = let none = absent_counts Hit (best_for number rows) (λ x. (refl, refl)) in omega (arith, none.0, none.1)
call_counts rows (Listing from to limit) table = omega arith

pub rows_counted : (rows : List Row) (batch : List Entry) → IsTable rows
    → length (table_after rows batch) + count_by is_gone (replies_to rows batch) ≡ length rows + count_by is_new (replies_to rows batch)
rows_counted rows [] table = refl
rows_counted rows (entry ∷ batch) table =
    let one = call_counts rows entry.call table in
    let rest = rows_counted (after rows entry.call) batch (calls_keep_tables rows entry.call table) in
    let gone : count_by is_gone (replies_to rows (entry ∷ batch)) ≡ less (answer rows entry.call) + count_by is_gone (replies_to (after rows entry.call) batch) = sum_by-cons less (answer rows entry.call) (replies_to (after rows entry.call) batch) in
    let new : count_by is_new (replies_to rows (entry ∷ batch)) ≡ more (answer rows entry.call) + count_by is_new (replies_to (after rows entry.call) batch) = sum_by-cons more (answer rows entry.call) (replies_to (after rows entry.call) batch) in
    omega (arith, one, rest, gone, new)
