-- The rows of a leaf that lie in a range, appended one after another as far as a limit allows.
use Rattle.std.proofs.Common.{◌≡◌, ℕ, zero, suc, ◌+◌, ◌<◌, ◌≤◌, Bool, true, false, cond, List, [], ◌∷◌, ◌++◌, length, slice_get, take, drop, filter, Some, refl, sym, ap, arith, ◌∙◌, ◌⊎◌, inl, inr}
use Rattle.std.proofs.lemmas.Bool.{lt-leb, le-leb}
use Rattle.std.proofs.lemmas.List.{append-nil, take-append-drop, take_all, length_push}
use Rattle.std.proofs.lemmas.List.Elements.{filter-append, filter_more}
use Rattle.std.proofs.lemmas.Option.{slice_get_within, get_or_from_slice_get}
use Rattle.palm_base.specs.Table.{row_key, lies_within, IsTable}
use Rattle.palm_base.proofs.Every.{every_weaker}
use Rattle.palm_base.proofs.TableSplits.{From}
use Rattle.palm_base.specs.declared.row.Row.{Row}
use Rattle.palm_tree.proofs.Limits.{one_more, no_more}
use Rattle.palm_tree.proofs.Ranges.{within-from}

-- What passes a test, up to an item and with it.
filter_next : {X : Type 0} (test : X → Bool) (xs : List X) (i : ℕ) (x : X) → slice_get xs i ≡ Some x
    → filter test (take (i + 1) xs) ≡ filter test (take i xs) ++ cond (test x) (x ∷ []) []
filter_next test xs i x e =
    filter_more test xs i x (slice_get_within xs i x e)
    ∙ ap (λ y. filter test (take i xs) ++ cond (test y) (y ∷ []) []) (get_or_from_slice_get xs i x x e)

-- The rows of a table from one on have keys from its key on.
rows_from : (k i : ℕ) (rows : List Row) (row : Row) → IsTable rows → slice_get rows i ≡ Some row → k ≤ row_key row → From k (drop i rows)
rows_from k i [] row table e least = absurd cc
rows_from k zero (first ∷ rows) row table e least =
    let same : first ≡ row = cc in
    let own : k ≤ row_key first = rw same least in
    (own, every_weaker (λ (later : Row). row_key first < row_key later) (λ (later : Row). k ≤ row_key later) (λ later less. omega (arith, own, less)) rows table.0)
rows_from k (suc i) (first ∷ rows) row table e least = rows_from k i rows row table.1 e least

within : (from to : ℕ) (row : Row) → from ≤ row_key row → row_key row ≤ to → lies_within from to row ≡ true
within from to row least most = rw (le-leb from (row_key row) least, le-leb (row_key row) to most) refl

not_yet_within : (from to : ℕ) (row : Row) → row_key row < from → lies_within from to row ≡ false
not_yet_within from to row less = rw (lt-leb from (row_key row) less) refl

-- A row of the range is appended.
pub row_appended : (from to limit i : ℕ) (held rows now next : List Row) (row : Row) → now ≡ take limit (held ++ filter (lies_within from to) (take i rows))
    → slice_get rows i ≡ Some row → from ≤ row_key row → row_key row ≤ to → length now < limit → next ≡ now ++ row ∷ []
    → next ≡ take limit (held ++ filter (lies_within from to) (take (i + 1) rows))
row_appended from to limit i held rows now next row is got least most room pushed =
    let part : filter (lies_within from to) (take (i + 1) rows) ≡ filter (lies_within from to) (take i rows) ++ row ∷ [] =
    filter_next (lies_within from to) rows i row got ∙ ap (λ b. filter (lies_within from to) (take i rows) ++ cond b (row ∷ []) []) (within from to row least most) in
    let fits : length (now ++ row ∷ []) ≤ limit = omega (arith, length_push now row, room) in
    rw part (one_more limit held (filter (lies_within from to) (take i rows)) (row ∷ []) now next is (pushed ∙ sym (take_all limit (now ++ row ∷ []) fits)))

-- A row before the range is passed over.
pub row_passed : (from to limit i : ℕ) (held rows now : List Row) (row : Row) → now ≡ take limit (held ++ filter (lies_within from to) (take i rows))
    → slice_get rows i ≡ Some row → row_key row < from
    → now ≡ take limit (held ++ filter (lies_within from to) (take (i + 1) rows))
row_passed from to limit i held rows now row is got less =
    let part : filter (lies_within from to) (take (i + 1) rows) ≡ filter (lies_within from to) (take i rows) =
    filter_next (lies_within from to) rows i row got ∙ ap (λ b. filter (lies_within from to) (take i rows) ++ cond b (row ∷ []) []) (not_yet_within from to row less)
    ∙ append-nil (filter (lies_within from to) (take i rows)) in
    rw part is

in_two : (test : Row → Bool) (i : ℕ) (rows : List Row) → filter test rows ≡ filter test (take i rows) ++ filter test (drop i rows)
in_two test i rows = ap (filter test) (sym (take-append-drop i rows)) ∙ filter-append test (take i rows) (drop i rows)

-- At a row past the range, or at the limit, all are there.
pub rows_end : (from to limit i : ℕ) (held rows now : List Row) (row : Row) → now ≡ take limit (held ++ filter (lies_within from to) (take i rows))
    → IsTable rows → slice_get rows i ≡ Some row → ((to < row_key row) ⊎ (limit ≤ length now))
    → now ≡ take limit (held ++ filter (lies_within from to) rows)
rows_end from to limit i held rows now row is table got (inl past) =
    no_more limit held _ _ _ now is (in_two (lies_within from to) i rows)
    (inl (within-from from to (drop i rows) (rows_from (suc to) i rows row table got (omega (arith, past)))))
rows_end from to limit i held rows now row is table got (inr full) =
    no_more limit held _ _ _ now is (in_two (lies_within from to) i rows) (inr full)
