-- Runs of calls: a batch more. The sum over replies goes on where it was.
use Rattle.std.proofs.Common.{◌≡◌, ℕ, ◌+◌, List, [], ◌∷◌, ◌++◌, length, refl, sym, ap, subst, ◌∙◌, arith, length-append}
use Rattle.std.specs.List.{AllByRecursion}
use Rattle.palm_base.specs.History.{replies_to, table_after}
use Rattle.palm_base.specs.declared.call.Entry.{Entry}
use Rattle.palm_base.specs.declared.call.Reply.{Reply}
use Rattle.palm_base.specs.declared.row.Row.{Row}
use Rattle.palm_base.proofs.Every.{every_append}
use Rattle.palm_base.proofs.Histories.{replies_to-append, table_after-append}
use Rattle.palm_bench.specs.declared.feed.Kind.{Kind}
use Rattle.palm_bench.specs.declared.feed.Kind.TheVariants.{Load, Sets, Edits, Gets, Rates, Nested, Narrow, Wide, Looks, Half}
use Rattle.palm_bench.specs.Kinds.{IsOfKind}
use Rattle.palm_bench.specs.Runs.{with_reply, with_replies, HasRun, Leaves}

with_replies-append : (sum : ℕ) (xs ys : List Reply) → with_replies sum (xs ++ ys) ≡ with_replies (with_replies sum xs) ys
with_replies-append sum [] ys = refl
with_replies-append sum (x ∷ xs) ys = with_replies-append (with_reply sum x) xs ys

-- A batch was run after those before.
pub batch_run : (kind : Kind) (count more all : ℕ) (before between after : List Row) (first sum total : ℕ) (batch : List Entry) → HasRun kind count before between first sum
    → all ≡ count + more → length batch ≡ more → AllByRecursion (λ entry. IsOfKind kind entry.call) batch
    → after ≡ table_after between batch → total ≡ with_replies sum (replies_to between batch) → HasRun kind all before after first total
batch_run kind count more all before between after first sum total batch ran whole many kinds rows-are total-is =
    let calls = ran.calls in
    let told = replies_to before calls in
    let next = replies_to (table_after before calls) batch in
    record {
      calls = calls ++ batch;
      many = omega (arith, length-append calls batch, ran.many, many, whole);
      kinds = every_append (λ entry. IsOfKind kind entry.call) calls batch ran.kinds kinds;
      rows-are = rows-are ∙ ap (λ rows. table_after rows batch) ran.rows-are ∙ sym (table_after-append before calls batch);
      total-is =
          total-is ∙ ap (λ n. with_replies n (replies_to between batch)) ran.total-is
          ∙ ap (λ rows. with_replies (with_replies first told) (replies_to rows batch)) ran.rows-are
          ∙ sym (with_replies-append first told next) ∙ ap (with_replies first) (sym (replies_to-append before calls batch));
    }

-- A load is what is planned where the plan is a load.
pub load_leaves : (kind : Kind) (count : ℕ) (first rows : List Row) (sum : ℕ) → kind ≡ Load → first ≡ [] → HasRun Load count first rows 0 sum → Leaves kind count rows sum
load_leaves kind count first rows sum is none ran =
    subst (λ k. Leaves k count rows sum) (sym is) (subst (λ before. HasRun Load count before rows 0 sum) none ran)

-- Calls of another kind are what is planned once the table is loaded.
pub calls_leave : (kind : Kind) (count : ℕ) (first loaded rows : List Row) (so_far sum : ℕ) → (kind ≡ Load → ⊥) → first ≡ []
    → HasRun Load count first loaded 0 so_far → HasRun kind count loaded rows so_far sum → Leaves kind count rows sum
calls_leave kind count first loaded rows so_far sum other none load ran = by kind other ran
  where
    begins : HasRun Load count [] loaded 0 so_far
    begins = subst (λ before. HasRun Load count before loaded 0 so_far) none load

    by : (kind : Kind) → (kind ≡ Load → ⊥) → HasRun kind count loaded rows so_far sum → Leaves kind count rows sum
    by Load other ran = absurd (other refl)
    by Sets other ran = record { loaded = loaded; so_far = so_far; load = begins; run = ran }
    by Edits other ran = record { loaded = loaded; so_far = so_far; load = begins; run = ran }
    by Gets other ran = record { loaded = loaded; so_far = so_far; load = begins; run = ran }
    by Rates other ran = record { loaded = loaded; so_far = so_far; load = begins; run = ran }
    by Nested other ran = record { loaded = loaded; so_far = so_far; load = begins; run = ran }
    by Narrow other ran = record { loaded = loaded; so_far = so_far; load = begins; run = ran }
    by Wide other ran = record { loaded = loaded; so_far = so_far; load = begins; run = ran }
    by Looks other ran = record { loaded = loaded; so_far = so_far; load = begins; run = ran }
    by Half other ran = record { loaded = loaded; so_far = so_far; load = begins; run = ran }
