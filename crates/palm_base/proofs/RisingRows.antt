-- Rising rows: taken apart, joined and kept by calls, and rows put back one after another.
use Rattle.std.proofs.Common.{◌≡◌, ℕ, suc, ◌<◌, ◌≤◌, Bool, true, false, cond, not, ◌==◌, List, [], ◌∷◌, ◌++◌, map, filter, refl, ap, arith, ◌∙◌, inl, inr}
use Rattle.std.specs.List.{AllByRecursion}
use Rattle.std.proofs.lemmas.Bool.{cases_order}
use Rattle.std.proofs.lemmas.List.{map-append}
use Rattle.palm_base.specs.Key.{key}
use Rattle.palm_base.specs.Table.{row_key, put, after, after_all}
use Rattle.palm_base.specs.Pass.{set_of}
use Rattle.palm_base.specs.Lawful.{RowIsIn, IsIn, Rising}
use Rattle.palm_base.proofs.Every.{every_weaker}
use Rattle.palm_base.proofs.Tables.{Order, put_before, put_at, put_past, after_all_append}
use Rattle.palm_base.proofs.TableSplits.{Under, From, Adds, put_left, put_right}
use Rattle.palm_base.proofs.Chains.{chain_wider}
use Rattle.palm_base.specs.declared.row.Row.{Row}
use Rattle.palm_base.specs.declared.call.Call.{Call}
use Rattle.palm_base.specs.declared.call.Call.TheVariants.{Set, Del, Get, Rate, List as Listing}

pub row_wider : (l h l' h' : ℕ) (row : Row) → RowIsIn l h row → l' ≤ l → h ≤ h' → RowIsIn l' h' row
row_wider l h l' h' row inside left right = (omega arith, omega arith)

pub row_proper : (l h : ℕ) (row : Row) → RowIsIn l h row → l < h
row_proper l h row inside = omega arith

pub rising_wider : (l h l' h' : ℕ) (rows : List Row) → Rising l h rows → l' ≤ l → h ≤ h' → Rising l' h' rows
rising_wider = chain_wider row_key RowIsIn row_wider row_proper

-- ---- apart and together

pub rising_head : (l h : ℕ) (row : Row) (rows : List Row) → Rising l h (row ∷ rows) → RowIsIn l h row
rising_head l h row [] rise = rise.0
rising_head l h row (next ∷ rows) rise = let later = rising_head (row_key next) h next rows rise.1 in (rise.0.0, omega arith)

pub rising_rest : (l h : ℕ) (row : Row) (rows : List Row) → Rising l h (row ∷ rows) → Rising (suc (row_key row)) h rows
rising_rest l h row [] rise = tt
rising_rest l h row (next ∷ rows) rise = ((omega arith, rise.1.0.1), rise.1.1)

pub rising_cons : (l h : ℕ) (row : Row) (rows : List Row) → RowIsIn l h row → Rising (suc (row_key row)) h rows → Rising l h (row ∷ rows)
rising_cons l h row [] inside rise = (inside, tt)
rising_cons l h row (next ∷ rows) inside rise = ((inside.0, rise.0.0), ((omega arith, rise.0.1), rise.1))

pub rising_join : (l m h : ℕ) (left right : List Row) → Rising l m left → Rising m h right → l ≤ m → m ≤ h → Rising l h (left ++ right)
rising_join l m h [] right rise later lm mh = rising_wider m h l h right later lm (omega arith)
rising_join l m h (row ∷ left) right rise later lm mh =
    let inside = rising_head l m row left rise in
    rising_cons l h row (left ++ right) (inside.0, omega arith)
    (rising_join (suc (row_key row)) m h left right (rising_rest l m row left rise) later inside.1 mh)

-- Rising rows lie between their bounds.
pub rising_range : (l h : ℕ) (rows : List Row) → Rising l h rows → AllByRecursion (RowIsIn l h) rows
rising_range l h [] rise = tt
rising_range l h (row ∷ rows) rise =
    let inside = rising_head l h row rows rise in
    (inside, rising_range l h rows (rising_wider (suc (row_key row)) h l h rows (rising_rest l h row rows rise) (omega arith) (omega arith)))

pub under_range : (l h : ℕ) (rows : List Row) → AllByRecursion (RowIsIn l h) rows → Under h rows
under_range l h = every_weaker (RowIsIn l h) (λ row. row_key row < h) (λ row inside. inside.1)

pub from_range : (l h : ℕ) (rows : List Row) → AllByRecursion (RowIsIn l h) rows → From l rows
from_range l h = every_weaker (RowIsIn l h) (λ row. l ≤ row_key row) (λ row inside. inside.0)

-- ---- calls on rising rows

pub rising_put : (l h : ℕ) (new : Row) (rows : List Row) → RowIsIn l h new → Rising l h rows → Rising l h (put new rows)
rising_put l h new [] inside rise = (inside, tt)
rising_put l h new (row ∷ rows) inside rise =
    by (rising_head l h row rows rise) (rising_rest l h row rows rise)
    (λ later. rising_put (suc (row_key row)) h new rows later (rising_rest l h row rows rise))
    (cases_order (row_key new) (row_key row))
  where
    by : RowIsIn l h row → Rising (suc (row_key row)) h rows → (RowIsIn (suc (row_key row)) h new → Rising (suc (row_key row)) h (put new rows))
        → Order new row → Rising l h (put new (row ∷ rows))
    by first rest put_later (inl e) =
        rw (put_at new row rows e)
        (rising_cons l h new rows inside (rising_wider (suc (row_key row)) h (suc (row_key new)) h rows rest (omega arith) (omega arith)))
    by first rest put_later (inr (inl less)) =
        rw (put_before new row rows less) (rising_cons l h new (row ∷ rows) inside (rising_cons (suc (row_key new)) h row rows (less, first.1) rest))
    by first rest put_later (inr (inr more)) = rw (put_past new row rows more) (rising_cons l h row (put new rows) first (put_later (more, inside.1)))

pub rising_filter : (l h : ℕ) (test : Row → Bool) (rows : List Row) → Rising l h rows → Rising l h (filter test rows)
rising_filter l h test [] rise = tt
rising_filter l h test (row ∷ rows) rise =
    by (test row) (rising_head l h row rows rise) (rising_filter (suc (row_key row)) h test rows (rising_rest l h row rows rise))
  where
    by : (b : Bool) → RowIsIn l h row → Rising (suc (row_key row)) h (filter test rows)
        → Rising l h (cond b (row ∷ filter test rows) (filter test rows))
    by true first rest = rising_cons l h row (filter test rows) first rest
    by false first rest = rising_wider (suc (row_key row)) h l h (filter test rows) rest (omega arith) (omega arith)

rising_after : (l h : ℕ) (rows : List Row) (call : Call) → Rising l h rows → Adds (IsIn l h) call → Rising l h (after rows call)
rising_after l h rows (Set prefix rate) rise adds = rising_put l h (record { prefix = prefix; rate = rate }) rows (adds refl) rise
rising_after l h rows (Del prefix) rise adds = rising_filter l h (λ row. not (row_key row == key prefix)) rows rise
rising_after l h rows (Get prefix) rise adds = rise
rising_after l h rows (Rate number) rise adds = rise
rising_after l h rows (Listing from to limit) rise adds = rise

pub rising_all : (l h : ℕ) (rows : List Row) (calls : List Call) → Rising l h rows → AllByRecursion (Adds (IsIn l h)) calls
    → Rising l h (after_all rows calls)
rising_all l h rows [] rise adds = rise
rising_all l h rows (call ∷ calls) rise adds = rising_all l h (after rows call) calls (rising_after l h rows call rise adds.0) adds.1

-- ---- rows put back

-- The rows of the second list put into the first, one after another.
abbrev pub put_all : List Row → List Row → List Row
put_all rows back = after_all rows (map set_of back)

pub put_all_append : (rows back more : List Row) → put_all rows (back ++ more) ≡ put_all (put_all rows back) more
put_all_append rows back more = rw map-append (after_all_append rows (map set_of back) (map set_of more))

pub put_all_right : (k : ℕ) (left right back : List Row) → Under k left → From k back → put_all (left ++ right) back ≡ left ++ put_all right back
put_all_right k left right [] under from = refl
put_all_right k left right (row ∷ back) under from =
    ap (λ rows. put_all rows back) (put_right row k left right from.0 under) ∙ put_all_right k left (put row right) back under from.1

pub put_all_left : (k : ℕ) (left right back : List Row) → From k right → Under k back → put_all (left ++ right) back ≡ put_all left back ++ right
put_all_left k left right [] from under = refl
put_all_left k left right (row ∷ back) from under =
    ap (λ rows. put_all rows back) (put_left row k left right under.0 from) ∙ put_all_left k (put row left) right back from under.1

-- Rising rows put into the empty table are the table.
pub put_all_none : (l h : ℕ) (rows : List Row) → Rising l h rows → put_all [] rows ≡ rows
put_all_none l h [] rise = refl
put_all_none l h (row ∷ rows) rise =
    let rest = rising_rest l h row rows rise in
    let later = from_range (suc (row_key row)) h rows (rising_range (suc (row_key row)) h rows rest) in
    put_all_right (suc (row_key row)) (row ∷ []) [] rows (omega arith, tt) later ∙ ap (λ more. row ∷ more) (put_all_none (suc (row_key row)) h rows rest)
