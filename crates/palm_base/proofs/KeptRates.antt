-- A number's row is found by its fronts, so edits of shorter fronts leave it.
use Rattle.std.proofs.Common.{◌≡◌, ℕ, zero, suc, ◌≤◌, List, length, take, length-take-le, refl, sym, ap, ◌∙◌, arith}
use Rattle.std.specs.Prelude.{Option, None, Some}
use Rattle.palm_base.specs.Key.{key}
use Rattle.palm_base.specs.Table.{rate_at, best_for, or_absent, answer, after_all}
use Rattle.palm_base.specs.Fronts.{row_or, first_front}
use Rattle.palm_base.specs.declared.row.Row.{Row}
use Rattle.palm_base.specs.declared.call.Call.TheVariants.{Rate}
use Rattle.palm_base.specs.declared.call.Reply.TheVariants.{Hit}
use Rattle.palm_base.proofs.PrefixRows.{prefixes_all}
use Rattle.palm_base.proofs.FrontSearch.{fronts_find_the_best}
use Rattle.palm_base.specs.LookUps.{digits_hit, IsFrontKey}
use Rattle.palm_base.specs.LookLaws.{RatesHold}
use Rattle.palm_base.proofs.KeptRows.{rate_kept, no_edit_weaker}

-- How many digits a row that was found has, and 0 where none was.
abbrev digits_found : Option Row → ℕ
digits_found None = 0
digits_found (Some row) = length row.prefix

digits_found_hit : (found : Option Row) → digits_hit (or_absent Hit found) ≡ digits_found found
digits_found_hit None = refl
digits_found_hit (Some row) = refl

-- The fronts with as many digits as the row that is found, or more, have the rates that they have in other rows.
abbrev AlikeFrom : ℕ → ℕ → List ℕ → List Row → List Row → Type 0
AlikeFrom least n number rows others =
    (i : ℕ) → 1 ≤ i → least ≤ i → i ≤ n → rate_at (key (take i number)) others ≡ rate_at (key (take i number)) rows

found_within : (n : ℕ) (number : List ℕ) (rows : List Row) → n ≤ length number → digits_found (first_front n number rows) ≤ n
found_within zero number rows few = omega arith
found_within (suc n) number rows few = by (rate_at (key (take (suc n) number)) rows) (found_within n number rows (omega arith))
  where
    by : (rate : Option ℕ) → digits_found (first_front n number rows) ≤ n
        → digits_found (row_or (take (suc n) number) (first_front n number rows) rate) ≤ suc n
    by None rest = omega arith
    by (Some rate) rest = omega (arith, length-take-le (suc n) number few)

-- Then the same row is found there.
found_alike : (n : ℕ) (number : List ℕ) (rows others : List Row) → n ≤ length number
    → AlikeFrom (digits_found (first_front n number rows)) n number rows others → first_front n number others ≡ first_front n number rows
found_alike zero number rows others few alike = refl
found_alike (suc n) number rows others few alike =
    by (rate_at (key (take (suc n) number)) rows) refl (found_alike n number rows others (omega arith)) alike
  where
    by : (rate : Option ℕ) → rate_at (key (take (suc n) number)) rows ≡ rate
        → (AlikeFrom (digits_found (first_front n number rows)) n number rows others → first_front n number others ≡ first_front n number rows)
        → AlikeFrom (digits_found (row_or (take (suc n) number) (first_front n number rows) rate)) (suc n) number rows others
        → first_front (suc n) number others ≡ row_or (take (suc n) number) (first_front n number rows) rate
    by None is rest alike =
        let within = found_within n number rows (omega arith) in
        let here : rate_at (key (take (suc n) number)) others ≡ None = alike (suc n) (omega arith) (omega arith) (omega arith) ∙ is in
        rw here (rest (λ i some enough below. alike i some enough (omega arith)))
    by (Some rate) is rest alike =
        let long : length (take (suc n) number) ≡ suc n = length-take-le (suc n) number few in
        let here : rate_at (key (take (suc n) number)) others ≡ Some rate = alike (suc n) (omega arith) (omega arith) (omega arith) ∙ is in
        rw here refl

pub rates_hold : RatesHold
rates_hold rows calls number hold sets is none =
    ap (or_absent Hit)
    (fronts_find_the_best (after_all rows calls) number (prefixes_all rows calls hold sets) is
    ∙ found_alike (length number) number rows (after_all rows calls) (omega arith) alike
    ∙ sym best)
  where
    best : best_for number rows ≡ first_front (length number) number rows
    best = fronts_find_the_best rows number hold is

    least : digits_hit (answer rows (Rate number)) ≡ digits_found (first_front (length number) number rows)
    least = digits_found_hit (best_for number rows) ∙ ap digits_found best

    alike : AlikeFrom (digits_found (first_front (length number) number rows)) (length number) number rows (after_all rows calls)
    alike i some enough few =
        rate_kept (key (take i number)) rows calls
        (no_edit_weaker (IsFrontKey (digits_hit (answer rows (Rate number))) number) (λ k. k ≡ key (take i number))
        (λ k same. record { digits = i; some = some; enough = omega (arith, least); few = few; same = sym same }) calls none)
