-- Rows at keys that no edit is at: they are the same before and after.
use Rattle.std.proofs.Common.{◌≡◌, ℕ, Bool, true, false, cond, not, ◌==◌, List, [], ◌∷◌, filter, refl, sym, ap, ◌∙◌, inl, inr}
use Rattle.std.specs.Prelude.{Option, None, Some}
use Rattle.std.proofs.lemmas.Bool.{cases_order, false_from_ne_true}
use Rattle.std.proofs.lemmas.Bool.Decides.{Decides-eqb}
use Rattle.palm_base.specs.Key.{key}
use Rattle.palm_base.specs.Table.{row_key, rate_at, put, without, or_absent, after, after_all, IsTable}
use Rattle.palm_base.specs.declared.row.Row.{Row}
use Rattle.palm_base.specs.declared.call.Call.{Call}
use Rattle.palm_base.specs.declared.call.Call.TheVariants.{Set, Del, Get, Rate, List as Listing}
use Rattle.palm_base.specs.declared.call.Reply.TheVariants.{Value}
use Rattle.palm_base.proofs.Tables.{Order, put_before, put_at, put_past, calls_keep_tables}
use Rattle.palm_base.specs.LookUps.{EditsAt, NoEditAt}
use Rattle.palm_base.specs.LookLaws.{GetsHold}

-- The rows whose keys pass a test.
abbrev pub keyed : (ℕ → Bool) → List Row → List Row
keyed q rows = filter (λ row. q (row_key row)) rows

keyed_in : (q : ℕ → Bool) (row : Row) (rows : List Row) → q (row_key row) ≡ true → keyed q (row ∷ rows) ≡ row ∷ keyed q rows
keyed_in q row rows is = rw is refl

keyed_out : (q : ℕ → Bool) (row : Row) (rows : List Row) → q (row_key row) ≡ false → keyed q (row ∷ rows) ≡ keyed q rows
keyed_out q row rows is = rw is refl

keyed_cons : (q : ℕ → Bool) (row : Row) (xs ys : List Row) → keyed q xs ≡ keyed q ys → keyed q (row ∷ xs) ≡ keyed q (row ∷ ys)
keyed_cons q row xs ys same = rw same refl

keyed_put : (q : ℕ → Bool) (new : Row) (rows : List Row) → q (row_key new) ≡ false → keyed q (put new rows) ≡ keyed q rows
keyed_put q new [] out = keyed_out q new [] out
keyed_put q new (row ∷ rows) out = by (keyed_put q new rows out) (cases_order (row_key new) (row_key row))
  where
    by : keyed q (put new rows) ≡ keyed q rows → Order new row → keyed q (put new (row ∷ rows)) ≡ keyed q (row ∷ rows)
    by rest (inl e) =
        ap (keyed q) (put_at new row rows e) ∙ keyed_out q new rows out ∙ sym (keyed_out q row rows (ap q (sym e) ∙ out))
    by rest (inr (inl less)) = ap (keyed q) (put_before new row rows less) ∙ keyed_out q new (row ∷ rows) out
    by rest (inr (inr more)) = ap (keyed q) (put_past new row rows more) ∙ keyed_cons q row (put new rows) rows rest

keyed_without : (q : ℕ → Bool) (k : ℕ) (rows : List Row) → q k ≡ false → keyed q (without k rows) ≡ keyed q rows
keyed_without q k [] out = refl
keyed_without q k (row ∷ rows) out = by (row_key row == k) refl (keyed_without q k rows out)
  where
    by : (b : Bool) → (row_key row == k) ≡ b → keyed q (without k rows) ≡ keyed q rows
        → keyed q (cond (not b) (row ∷ without k rows) (without k rows)) ≡ keyed q (row ∷ rows)
    by true same rest = rest ∙ sym (keyed_out q row rows (ap q ((Decides-eqb (row_key row) k).0 same) ∙ out))
    by false other rest = keyed_cons q row (without k rows) rows rest

-- An edit leaves the rows at other keys.
keyed_after : (q : ℕ → Bool) (rows : List Row) (call : Call) → EditsAt (λ k. q k ≡ true → ⊥) call → keyed q (after rows call) ≡ keyed q rows
keyed_after q rows (Set prefix rate) apart =
    keyed_put q (record { prefix = prefix; rate = rate }) rows (false_from_ne_true (q (key prefix)) apart)
keyed_after q rows (Del prefix) apart = keyed_without q (key prefix) rows (false_from_ne_true (q (key prefix)) apart)
keyed_after q rows (Get prefix) apart = refl
keyed_after q rows (Rate number) apart = refl
keyed_after q rows (Listing from to limit) apart = refl

pub keyed_kept : (q : ℕ → Bool) (rows : List Row) (calls : List Call) → NoEditAt (λ k. q k ≡ true) calls
    → keyed q (after_all rows calls) ≡ keyed q rows
keyed_kept q rows [] none = refl
keyed_kept q rows (call ∷ calls) none = keyed_kept q (after rows call) calls none.1 ∙ keyed_after q rows call none.0

-- Calls leave a table.
pub table_kept : (rows : List Row) (calls : List Call) → IsTable rows → IsTable (after_all rows calls)
table_kept rows [] table = table
table_kept rows (call ∷ calls) table = table_kept (after rows call) calls (calls_keep_tables rows call table)

-- No edit is at a key with a property that says more.
edits_weaker : (P Q : ℕ → Type 0) → ((k : ℕ) → Q k → P k) → (call : Call) → EditsAt (λ k. P k → ⊥) call → EditsAt (λ k. Q k → ⊥) call
edits_weaker P Q says (Set prefix rate) apart = λ q. apart (says (key prefix) q)
edits_weaker P Q says (Del prefix) apart = λ q. apart (says (key prefix) q)
edits_weaker P Q says (Get prefix) apart = tt
edits_weaker P Q says (Rate number) apart = tt
edits_weaker P Q says (Listing from to limit) apart = tt

pub no_edit_weaker : (P Q : ℕ → Type 0) → ((k : ℕ) → Q k → P k) → (calls : List Call) → NoEditAt P calls → NoEditAt Q calls
no_edit_weaker P Q says [] none = tt
no_edit_weaker P Q says (call ∷ calls) none = (edits_weaker P Q says call none.0, no_edit_weaker P Q says calls none.1)

-- The rate of the first row.
first_rate : List Row → Option ℕ
first_rate [] = None
first_rate (row ∷ rows) = Some row.rate

-- A key's rate is that of its row, the first of the rows at the key.
rate_first : (k : ℕ) (rows : List Row) → rate_at k rows ≡ first_rate (keyed (λ j. j == k) rows)
unfolding first_rate
rate_first k [] = refl
rate_first k (row ∷ rows) = by (row_key row == k) (rate_first k rows)
  where
    by : (b : Bool) → rate_at k rows ≡ first_rate (keyed (λ j. j == k) rows)
        → cond b (Some row.rate) (rate_at k rows) ≡ first_rate (cond b (row ∷ keyed (λ j. j == k) rows) (keyed (λ j. j == k) rows))
    by true rest = refl
    by false rest = rest

pub rate_kept : (k : ℕ) (rows : List Row) (calls : List Call) → NoEditAt (λ j. j ≡ k) calls → rate_at k (after_all rows calls) ≡ rate_at k rows
rate_kept k rows calls none =
    rate_first k (after_all rows calls)
    ∙ ap first_rate (keyed_kept (λ j. j == k) rows calls (no_edit_weaker (λ j. j ≡ k) (λ j. (j == k) ≡ true) (λ j. (Decides-eqb j k).0) calls none))
    ∙ sym (rate_first k rows)

pub gets_hold : GetsHold
gets_hold rows calls prefix none = ap (or_absent Value) (rate_kept (key prefix) rows calls none)
