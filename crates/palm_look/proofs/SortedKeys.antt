-- Searches among sorted keys, and what they find.
use Rattle.std.proofs.Common.{◌≡◌, ℕ, zero, suc, ◌≤◌, ◌<◌, Bool, true, false, List, [], ◌∷◌, length, All, get_or, Result, Ok, Err, MatchBool, refl, sym, ap, ◌∙◌, arith, inl, inr}
use Rattle.std.specs.Prelude.{IsSorted, nat_le, nat_lt}
use Rattle.std.specs.Result.{MatchResult, is_ok}
use Rattle.std.specs.List.Sorted.{IsBinarySearchResult, IsNonDecreasing, IsPartitionPoint, IsPartitionedBy}
use Rattle.std.specs.Ordering.{nat_cmp}
use Rattle.std.proofs.lemmas.Bool.{cases_lt}
use Rattle.std.proofs.lemmas.Bool.Decides.{nat_tests}
use Rattle.std.proofs.lemmas.Grind.{get_or_default_zero}
use Rattle.std.proofs.lemmas.List.Sorted.{IsNonDecreasingBy-from_sort, IsPartitionedBy-ltb, searched}
use Rattle.palm_base.specs.LookUps.{IsBetween}
use Rattle.palm_look.specs.Met.{HasOne, HasNone}

-- Sorted keys don't fall.
pub keys_rise : (keys : List ℕ) → IsSorted nat_cmp keys → IsNonDecreasing keys
keys_rise keys sorted = IsNonDecreasingBy-from_sort (λ k. k) keys sorted

-- A search by halves finds a key exactly where it is among the keys.
pub key_found : (key : ℕ) (keys : List ℕ) (found : Result ℕ ℕ) → IsSorted nat_cmp keys → IsBinarySearchResult (λ k. nat_cmp k key) keys found
    → MatchBool (is_ok found) (HasOne (λ k. k ≡ key) keys) (HasNone (λ k. k ≡ key) keys)
key_found key keys found sorted is = by found (searched keys key found is (λ i j le inside. keys_rise keys sorted i j 0 le inside))
  where
    by : (r : Result ℕ ℕ)
        → MatchResult r (λ i. (i < length keys) × (get_or keys i 0 ≡ key)) (λ i. (i ≤ length keys) × ((k : ℕ) → k < i → get_or keys k 0 < key) × ((k : ℕ) → i ≤ k → k < length keys → key < get_or keys k 0))
        → MatchBool (is_ok r) (HasOne (λ k. k ≡ key) keys) (HasNone (λ k. k ≡ key) keys)
    by (Ok i) at = λ none. none i 0 at.0 at.1
    by (Err i) gap = λ j d inside same.
        let zero : get_or keys j d ≡ get_or keys j 0 = get_or_default_zero keys j d inside in
        elim (cases_lt j i) [
          | inl below ↦ omega (arith, gap.1 j below, same, zero)
          | inr past ↦ omega (arith, gap.2 j past inside, same, zero)
        ]

-- The keys below one come first.
pub parted_below : (from : ℕ) (keys : List ℕ) → IsSorted nat_cmp keys → IsPartitionedBy (λ k. nat_lt k from) keys
parted_below from keys sorted = IsPartitionedBy-ltb (λ k. k) keys from (keys_rise keys sorted)

-- Behind them stands the least key of a range, where there is one.
pub range_found : (from to i : ℕ) (keys : List ℕ) → IsSorted nat_cmp keys → IsPartitionPoint (λ k. nat_lt k from ≡ true) (λ k. nat_lt k from ≡ false) keys i → i < length keys
    → MatchBool (nat_le (get_or keys i 0) to) (HasOne (IsBetween from to) keys) (HasNone (IsBetween from to) keys)
range_found from to i keys sorted point inside = by (nat_le (get_or keys i 0) to) refl
  where
    by : (b : Bool) → nat_le (get_or keys i 0) to ≡ b → MatchBool b (HasOne (IsBetween from to) keys) (HasNone (IsBetween from to) keys)
    by true is = λ none. none i 0 inside (record { least = grind (arith, nat_tests, point.1 i 0 (omega arith) inside); most = grind (arith, nat_tests) })
    by false not = λ j d within between.
        let zero : get_or keys j d ≡ get_or keys j 0 = get_or_default_zero keys j d within in
        elim (cases_lt j i) [
          | inl below ↦ let small : nat_lt (get_or keys j d) from ≡ true = point.0 j d (omega arith) below in grind (arith, nat_tests, small, between.least)
          | inr past ↦ let more : get_or keys i 0 ≤ get_or keys j 0 = keys_rise keys sorted i j 0 past within in grind (arith, nat_tests, more, between.most, zero)
        ]

-- Where nothing stands behind them there is none.
pub range_past : (from to i : ℕ) (keys : List ℕ) → IsPartitionPoint (λ k. nat_lt k from ≡ true) (λ k. nat_lt k from ≡ false) keys i → length keys ≤ i → HasNone (IsBetween from to) keys
range_past from to i keys point past j d within between =
    let small : nat_lt (get_or keys j d) from ≡ true = point.0 j d (omega arith) (omega arith) in
    grind (arith, nat_tests, small, between.least)
