-- The entries that a script's items make keep each caller's order.
use Rattle.std.proofs.Common.{◌≡◌, ℕ, ◌+◌, true, false, cond, eqb, List, [], ◌∷◌, ◌++◌, refl, ap, ◌∙◌, arith}
use Rattle.std.specs.Prelude.{count_by}
use Rattle.std.proofs.lemmas.Bool.{eqb-true}
use Rattle.std.proofs.lemmas.List.Sums.{sum_by_push}
use Rattle.palm_base.specs.declared.call.Entry.{Entry}
use Rattle.palm_base.specs.History.{entries_of, numbered}
use Rattle.palm_script.specs.declared.line.Line.{Line}
use Rattle.palm_script.specs.declared.line.Line.TheVariants.{Skip, Made, Cut, Dump}
use Rattle.palm_script.specs.Laws.{StraightKeepsOrder}
use Rattle.palm_script.specs.Script.{next_entry, entries_from, calls_by}

-- how many of these entries a caller has
abbrev pub count_of : ℕ → List Entry → ℕ
count_of caller entries = count_by (λ entry. eqb entry.caller caller) entries

pub count_of-more : (before : List Entry) (entry : Entry) (caller : ℕ)
    → count_of caller (before ++ entry ∷ []) ≡ count_of caller before + cond (eqb entry.caller caller) 1 0
count_of-more before entry caller = sum_by_push (λ (each : Entry). cond (eqb each.caller caller) 1 0) before entry

-- a caller's entries after these count on from those that it has
pub counts_on : (before : List Entry) (items : List Line) (caller : ℕ)
    → entries_of caller (entries_from before items) ≡ numbered caller (count_of caller before) (calls_by caller items)
counts_on before [] caller = refl
counts_on before (Skip ∷ items) caller = counts_on before items caller
counts_on before (Cut ∷ items) caller = counts_on before items caller
counts_on before (Dump ∷ items) caller = counts_on before items caller
counts_on before (Made other call ∷ items) caller =
    let entry = next_entry before other call in
    let calls = calls_by caller items in
    let rest = counts_on (before ++ entry ∷ []) items caller in
    let more = count_of-more before entry caller in
    elim (eqb other caller) as (λ v. eqb other caller ≡ v → entries_of caller (entries_from before (Made other call ∷ items)) ≡ numbered caller (count_of caller before) (calls_by caller (Made other call ∷ items))) [
      | true ↦ λ e.
          let one : count_of caller (before ++ entry ∷ []) ≡ count_of caller before + 1 = more ∙ ap (λ v. count_of caller before + cond v 1 0) e in
          let tail : entries_of caller (entries_from (before ++ entry ∷ []) items) ≡ numbered caller (count_of caller before + 1) calls = rest ∙ ap (λ n. numbered caller n calls) one in
          let own : entry ≡ next_entry before caller call = ap (λ (who : ℕ). next_entry before who call) (eqb-true other caller e) in
          rw (e, tail, own) refl
      | false ↦ λ e.
          let same : count_of caller (before ++ entry ∷ []) ≡ count_of caller before = more ∙ ap (λ v. count_of caller before + cond v 1 0) e ∙ omega arith in
          rw e (rest ∙ ap (λ n. numbered caller n calls) same)
    ] refl

pub keeps_order : StraightKeepsOrder
keeps_order items caller = counts_on [] items caller
