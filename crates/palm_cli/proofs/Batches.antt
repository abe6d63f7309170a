-- A history in batches of one length: the first batch, and what is left.
use Rattle.std.proofs.Common.{◌≡◌, ℕ, suc, ◌+◌, ◌-◌, ◌*◌, ◌/◌, ◌%◌, ◌<◌, ◌≤◌, min, eqb, cond, List, [], ◌∷◌, ◌++◌, length, take, drop, Option, refl, sym, ap, ◌∙◌, arith, inl, inr}
use Rattle.std.specs.Io.KnownBytes.{Appends}
use Rattle.std.proofs.Math.Nat.{suc-mul, mod-eq_of_lt, div-eq_of_lt, zero-div}
use Rattle.std.proofs.lemmas.Bool.{cases_lt, ne_eqb}
use Rattle.std.proofs.lemmas.List.{length-drop, take-append-drop}
use Rattle.std.proofs.lemmas.Nat.{div-add-mod', div-mul-add, mod-mul-add, mod_below}
use Rattle.palm_base.specs.declared.row.Row.{Row}
use Rattle.palm_base.specs.declared.call.Entry.{Entry}
use Rattle.palm_base.specs.History.{calls_of, table_after}
use Rattle.palm_base.specs.Pass.{batch_tree, tree_after}
use Rattle.palm_base.specs.Tree.{Tree, rows_of}
use Rattle.palm_base.proofs.Histories.{table_after-append}
use Rattle.palm_script.specs.Transcript.{Progress, come_to, after_batch, batch_text, batches_text, cut_by}
use Rattle.palm_script.specs.declared.dump.DumpWhen.{DumpWhen}
use Rattle.palm_batch.specs.Costs.{cost_on}
use Rattle.palm_cli.specs.Costs.{batches_cost}
use Rattle.palm_cli.specs.Streams.{AppendsFront}
use Rattle.palm_cli.proofs.Fronts.{AppendsBut, but_more, but_front}

-- the last length, where it isn't 0
abbrev left_over : ℕ → List ℕ
left_over r = cond (eqb r 0) [] (r ∷ [])

-- it is there where it isn't 0
left_over-some : (r : ℕ) → 0 < r → left_over r ≡ r ∷ []
left_over-some r some = rw (ne_eqb r 0 (λ e. omega arith)) refl

-- The first of some calls' batches, and the batches of the others.
pub cut_by-more : (most count : ℕ) → 1 ≤ most → 0 < count → cut_by most count ≡ min count most ∷ cut_by most (count - min count most)
cut_by-more most count some left =
    elim (cases_lt count most) [
      | inl lt ↦
          let all : min count most ≡ count = omega arith in
          let none : count - count ≡ 0 = omega arith in
          rw (all, none, div-eq_of_lt lt, mod-eq_of_lt lt, zero-div most, mod-eq_of_lt some) (left_over-some count left)
      | inr ge ↦
          let q = (count - most) / most in
          let r = (count - most) % most in
          let small : r < most = mod_below (count - most) most some in
          let parts : q * most + r ≡ count - most = div-add-mod' (count - most) most in
          let whole : count ≡ suc q * most + r = omega (arith, suc-mul q most, parts) in
          let first : min count most ≡ most = omega arith in
          let quotient : count / most ≡ suc q = ap (λ (n : ℕ). n / most) whole ∙ div-mul-add (suc q) most r small in
          let rest : count % most ≡ r = ap (λ (n : ℕ). n % most) whole ∙ mod-mul-add (suc q) most r small in
          rw (first, quotient, rest) refl
    ]

-- ---- the first batch of some calls, and what is left of them

-- The first batch of `rest` is its first `most` calls, or all of it where there are fewer, and `left` stands behind it. So of
-- the calls x, y, z in batches of two it is x, y, and z is left.
pub record IsFirstBatch (most : ℕ) (rest batch left : List Entry) : Type 0 where
  pub most_some : 1 ≤ most
  pub some : 0 < length rest
  pub front : batch ≡ take (min (length rest) most) rest
  pub back : left ≡ drop (min (length rest) most) rest

-- It is split off so.
pub first_batch : {most k : ℕ} {rest batch left : List Entry} → 1 ≤ most → 0 < length rest → k ≡ min (length rest) most → batch ≡ take k rest → left ≡ drop k rest
    → IsFirstBatch most rest batch left
first_batch {rest = rest} most_some some size front back = record {
  most_some = most_some;
  some = some;
  front = front ∙ ap (λ (n : ℕ). take n rest) size;
  back = back ∙ ap (λ (n : ℕ). drop n rest) size;
}

-- With what is left it makes all.
pub batch_joins : {most : ℕ} {rest batch left : List Entry} → IsFirstBatch most rest batch left → batch ++ left ≡ rest
batch_joins {most} {rest} first = rw (first.front, first.back) (take-append-drop (min (length rest) most) rest)

-- What a cutting says of all calls by their first batch and the others, it says by these two.
by_batch : {X : Type 0} (F : List ℕ → X) (G : List Entry → List Entry → List ℕ → X) {most : ℕ} {rest batch left : List Entry} → IsFirstBatch most rest batch left
    → ((k : ℕ) (lengths : List ℕ) → F (k ∷ lengths) ≡ G (take k rest) (drop k rest) lengths) → F (cut_by most (length rest)) ≡ G batch left (cut_by most (length left))
by_batch F G {most} {rest} {batch} {left} first opens =
    let k : ℕ = min (length rest) most in
    let lengths = cut_by most (length left) in
    let fewer : length rest - k ≡ length left = omega (arith, length-drop k rest, ap length first.back) in
    ap F (cut_by-more most (length rest) first.most_some first.some ∙ ap (λ (m : ℕ). k ∷ cut_by most m) fewer)
    ∙ opens k lengths
    ∙ ap (λ (b : List Entry). G b (drop k rest) lengths) (sym first.front)
    ∙ ap (λ (l : List Entry). G batch l lengths) (sym first.back)

-- All calls' text is that of the first batch, and that of what is left.
batch_opens : (dump : DumpWhen) (at : Progress) {most : ℕ} {rest batch left : List Entry} → IsFirstBatch most rest batch left
    → batches_text dump at rest (cut_by most (length rest)) ≡ batch_text dump at batch ++ batches_text dump (after_batch at batch) left (cut_by most (length left))
batch_opens dump at {rest = rest} first =
    by_batch (batches_text dump at rest) (λ b l lengths. batch_text dump at b ++ batches_text dump (after_batch at b) l lengths) first (λ k lengths. refl)

-- ---- a batch more

-- It was written: with the text of what is left it makes the whole.
pub batch_written : (dump : DumpWhen) (at : Progress) (a b c : Option (List ℕ)) {next : Progress} {most : ℕ} {rest batch left : List Entry} {all : List ℕ}
    → IsFirstBatch most rest batch left → after_batch at batch ≡ next → AppendsBut a b (batches_text dump at rest (cut_by most (length rest))) all
    → Appends b c (batch_text dump at batch) → AppendsBut a c (batches_text dump next left (cut_by most (length left))) all
batch_written dump at a b c {next} {most} {rest} {batch} {left} first came old took =
    let lengths = cut_by most (length left) in
    let text = batch_opens dump at first ∙ ap (λ (to : Progress). batch_text dump at batch ++ batches_text dump to left lengths) came in
    but_more a b c (batch_text dump at batch) (batches_text dump next left lengths) text old took

-- A front of it was written: with what was written before it begins the whole.
pub batch_begun : (dump : DumpWhen) (at : Progress) (a b c : Option (List ℕ)) {most : ℕ} {rest batch left : List Entry} {all : List ℕ}
    → IsFirstBatch most rest batch left → AppendsBut a b (batches_text dump at rest (cut_by most (length rest))) all → AppendsFront b c (batch_text dump at batch)
    → AppendsFront a c all
batch_begun dump at a b c {most} {batch = batch} {left = left} first old more =
    but_front a b c (batch_text dump at batch) (batches_text dump (after_batch at batch) left (cut_by most (length left))) (batch_opens dump at first) old more

-- How far a tree and a table have come that were left by a batch.
pub came_on : (n : ℕ) (old new : Tree) (batch : List Entry) → new ≡ batch_tree old (calls_of batch) → rows_of new ≡ table_after (rows_of old) batch
    → after_batch (come_to n old) batch ≡ come_to (n + length batch) new
came_on n old new batch tree rows =
    ap (λ (t : Tree). record { calls = n + length batch; rows = table_after (rows_of old) batch; tree = t }) (sym tree)
    ∙ ap (λ (table : List Row). record { calls = n + length batch; rows = table; tree = new }) (sym rows)

-- What is left leaves of its tree what all that was left did before.
pub tree_more : (tree : Tree) {next all : Tree} {most : ℕ} {rest batch left : List Entry} → IsFirstBatch most rest batch left → next ≡ batch_tree tree (calls_of batch)
    → tree_after tree rest (cut_by most (length rest)) ≡ all → tree_after next left (cut_by most (length left)) ≡ all
tree_more tree {most = most} {rest = rest} {left = left} first next-is whole =
    ap (λ (t : Tree). tree_after t left (cut_by most (length left))) next-is
    ∙ sym (by_batch (tree_after tree rest) (λ b l lengths. tree_after (batch_tree tree (calls_of b)) l lengths) first (λ k lengths. refl)) ∙ whole

-- The same of its table.
pub rows_more : (rows : List Row) {next all : List Row} {most : ℕ} {rest batch left : List Entry} → IsFirstBatch most rest batch left → next ≡ table_after rows batch
    → table_after rows rest ≡ all → table_after next left ≡ all
rows_more rows {batch = batch} {left = left} first next-is whole =
    ap (λ (table : List Row). table_after table left) next-is ∙ sym (table_after-append rows batch left) ∙ ap (table_after rows) (batch_joins first) ∙ whole

-- What it and what is left may take is what all that was left might.
pub cost_more : (tree : Tree) {next : Tree} {most : ℕ} {rest batch left : List Entry} → IsFirstBatch most rest batch left → next ≡ batch_tree tree (calls_of batch)
    → batches_cost tree rest (cut_by most (length rest)) ≡ cost_on tree batch + batches_cost next left (cut_by most (length left))
cost_more tree {most = most} {rest = rest} {batch = batch} {left = left} first next-is =
    by_batch (batches_cost tree rest) (λ b l lengths. cost_on tree b + batches_cost (batch_tree tree (calls_of b)) l lengths) first (λ k lengths. refl)
    ∙ ap (λ (t : Tree). cost_on tree batch + batches_cost t left (cut_by most (length left))) (sym next-is)
