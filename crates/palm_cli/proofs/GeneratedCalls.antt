-- A history of generated calls: its first batch, and what is left of it.
use Rattle.std.proofs.Common.{◌≡◌, ℕ, ◌+◌, ◌-◌, ◌≤◌, List, ◌++◌, length, take, drop, sym, ap, ◌∙◌, arith}
use Rattle.std.specs.Prelude.{sum_by}
use lib.Seq.{drop-append_seam}
use Rattle.std.proofs.lemmas.List.{take-append-le, take_all}
use Rattle.std.proofs.lemmas.List.Sums.{sum_by-append}
use Rattle.palm_base.proofs.Histories.{replies_to-append}
use Rattle.palm_base.specs.History.{replies_to, table_after}
use Rattle.palm_base.specs.declared.call.Entry.{Entry}
use Rattle.palm_base.specs.declared.call.Reply.{Reply}
use Rattle.palm_base.specs.declared.row.Row.{Row}
use Rattle.palm_gen.specs.Generator.{history_from, state_after}
use Rattle.palm_gen.specs.Laws.{HistoriesJoin, HistoriesAreLong}
use Rattle.palm_gen.specs.Summary.{Counts}
use Rattle.palm_cli.proofs.Batches.{IsFirstBatch, batch_joins}

-- Of n calls the first k, and those behind them.
parted : HistoriesJoin → (n k state i : ℕ) → k ≤ n → history_from n state i ≡ history_from k state i ++ history_from (n - k) (state_after k state) (i + k)
parted join n k state i few = ap (λ (m : ℕ). history_from m state i) (omega arith) ∙ join k (n - k) state i

-- The first k calls of n are those from the same state.
pub first_calls : HistoriesJoin → HistoriesAreLong → (n k state i : ℕ) → k ≤ n → history_from k state i ≡ take k (history_from n state i)
first_calls join long n k state i few =
    let first = history_from k state i in
    let rest = history_from (n - k) (state_after k state) (i + k) in
    let size : length first ≡ k = long k state i in
    sym (ap (take k) (parted join n k state i few) ∙ take-append-le k first rest (omega (arith, size)) ∙ take_all k first (omega (arith, size)))

-- The others are those from the state that these leave.
pub other_calls : HistoriesJoin → HistoriesAreLong → (n k state i : ℕ) → k ≤ n → history_from (n - k) (state_after k state) (i + k) ≡ drop k (history_from n state i)
other_calls join long n k state i few =
    let first = history_from k state i in
    let rest = history_from (n - k) (state_after k state) (i + k) in
    let size : length first ≡ k = long k state i in
    sym (ap (drop k) (parted join n k state i few) ∙ ap (λ (m : ℕ). drop m (first ++ rest)) (sym size) ∙ drop-append_seam first rest)

-- What replies to calls sum up to is what those to their first batch do and those to the others.
pub replies_more : (f : Reply → ℕ) (rows : List Row) {next : List Row} {most : ℕ} {rest batch left : List Entry} → IsFirstBatch most rest batch left
    → next ≡ table_after rows batch
    → sum_by f (replies_to rows rest) ≡ sum_by f (replies_to rows batch) + sum_by f (replies_to next left)
replies_more f rows {batch = batch} {left = left} first next-is =
    ap (λ (l : List Entry). sum_by f (replies_to rows l)) (sym (batch_joins first))
    ∙ ap (sum_by f) (replies_to-append rows batch left)
    ∙ sum_by-append f (replies_to rows batch) (replies_to (table_after rows batch) left)
    ∙ ap (λ (t : List Row). sum_by f (replies_to rows batch) + sum_by f (replies_to t left)) (sym next-is)

-- Counts are told by their three numbers.
pub counts_by : (counts : Counts) (calls hits sum : ℕ) → counts.calls ≡ calls → counts.hits ≡ hits → counts.sum ≡ sum → counts ≡ record { calls = calls; hits = hits; sum = sum }
counts_by counts calls hits sum c h s =
    ap (λ (n : ℕ). record { calls = n; hits = counts.hits; sum = counts.sum }) c
    ∙ ap (λ (n : ℕ). record { calls = calls; hits = n; sum = counts.sum }) h
    ∙ ap (λ (n : ℕ). record { calls = calls; hits = hits; sum = n }) s
