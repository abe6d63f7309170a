-- Batches of one length, and what is left, are a cutting.
use Rattle.std.proofs.Common.{◌≡◌, ℕ, zero, suc, ◌+◌, ◌/◌, ◌%◌, ◌<◌, ◌≤◌, true, false, cond, eqb, List, [], ◌∷◌, ◌++◌, length, replicate, refl, arith}
use Rattle.std.specs.List.{AllByRecursion, sum}
use Rattle.std.proofs.lemmas.Bool.{eqb-true, eqb-false}
use Rattle.std.proofs.lemmas.Nat.{div-add-mod', mod_below}
use Rattle.std.proofs.lemmas.List.Sums.{sum_by-append}
use Rattle.std.proofs.lemmas.List.Folds.{sum_by-replicate}
use Rattle.palm_script.specs.Laws.{CutByCuts}
use Rattle.palm_script.specs.Transcript.{cut_by}

all_then : (P : ℕ → Type 0) (n m : ℕ) (rest : List ℕ) → P m → AllByRecursion P rest → AllByRecursion P (replicate n m ++ rest)
all_then P zero m rest p q = q
all_then P (suc n) m rest p q = (p, all_then P n m rest p q)

-- of a length that is left there is no batch where it is 0
all_left : (P : ℕ → Type 0) (r : ℕ) → (0 < r → P r) → AllByRecursion P (cond (eqb r 0) [] (r ∷ []))
all_left P r p =
    elim (eqb r 0) as (λ v. eqb r 0 ≡ v → AllByRecursion P (cond v [] (r ∷ []))) [
      | true ↦ λ e. tt
      | false ↦ λ e. let none : r ≡ 0 → ⊥ = eqb-false r 0 e in (p (omega (arith, none)), tt)
    ] refl

sum_left : (r : ℕ) → sum (cond (eqb r 0) [] (r ∷ [])) ≡ r
sum_left r =
    elim (eqb r 0) as (λ v. eqb r 0 ≡ v → sum (cond v [] (r ∷ [])) ≡ r) [
      | true ↦ λ e. omega (arith, eqb-true r 0 e)
      | false ↦ λ e. omega arith
    ] refl

all_cut : (P : ℕ → Type 0) (most count : ℕ) → P most → (0 < count % most → P (count % most)) → AllByRecursion P (cut_by most count)
all_cut P most count full left =
    all_then P (count / most) most (cond (eqb (count % most) 0) [] ((count % most) ∷ [])) full (all_left P (count % most) left)

sum_cut : (most count : ℕ) → sum (cut_by most count) ≡ count
sum_cut most count =
    let left : List ℕ = cond (eqb (count % most) 0) [] ((count % most) ∷ []) in
    let both : sum (cut_by most count) ≡ sum (replicate (count / most) most) + sum left = sum_by-append (λ n. n) (replicate (count / most) most) left in
    omega (arith, both, sum_by-replicate (λ n. n) (count / most) most, sum_left (count % most), div-add-mod' count most)

pub cuts : CutByCuts
cuts entries most some =
    let below : length entries % most < most = mod_below (length entries) most some in (
      record { some = all_cut (λ n. 0 < n) most (length entries) some (λ h. h); whole = sum_cut most (length entries) },
      all_cut (λ n. n ≤ most) most (length entries) (omega arith) (λ h. omega (arith, below)),
    )
