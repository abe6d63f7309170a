-- The keys of a number's fronts rise with their digits.
use Rattle.std.proofs.Common.{◌≡◌, ℕ, zero, suc, max, ◌≤◌, ◌<◌, Bool, true, false, MatchBool, List, [], ◌∷◌, length, take, take_all, refl, sym, ap, ◌∙◌, arith, inl, inr}
use Rattle.std.proofs.lemmas.Bool.{cases_lt}
use Rattle.std.proofs.Math.Nat.{le-max_right, max-le}
use Rattle.palm_base.specs.Prefix.{IsPrefix}
use Rattle.palm_base.specs.Key.{key}
use Rattle.palm_base.specs.LookUps.{IsFrontKey, IsBetween}
use Rattle.palm_base.proofs.KeyOrder.{keys_keep_order}
use Rattle.palm_base.proofs.Fronts.{front-is_prefix, fronts_rise}
use Rattle.palm_look.specs.Met.{HasOne, HasNone}

-- A longer front has a greater key.
front_keys : (m n : ℕ) (number : List ℕ) → IsPrefix number → 1 ≤ m → m ≤ n → n ≤ length number → key (take m number) ≤ key (take n number)
front_keys m n number is some le few =
    elim (cases_lt m n) [
      | inl less ↦
          let rise : key (take m number) < key (take n number) =
          (keys_keep_order (take m number) (take n number) (front-is_prefix m number is some (omega arith)) (front-is_prefix n number is (omega arith) few)).0 (fronts_rise m n number less few) in
          omega arith
      | inr more ↦ let same : m ≡ n = omega arith in let e : key (take m number) ≡ key (take n number) = ap (λ (k : ℕ). key (take k number)) same in omega arith
    ]

-- So the fronts with so many digits or more have their keys from that of the shortest to the number's own.
front_between : (least k : ℕ) (number : List ℕ) → IsPrefix number → 1 ≤ least → IsFrontKey least number k → IsBetween (key (take least number)) (key number) k
front_between least k number is some front =
    let low : key (take least number) ≤ key (take front.digits number) = front_keys least front.digits number is some front.enough front.few in
    let high : key (take front.digits number) ≤ key (take (length number) number) = front_keys front.digits (length number) number is front.some front.few (omega arith) in
    let whole : key (take (length number) number) ≡ key number = ap key (take_all (length number) number (omega arith)) in
    record { least = omega (arith, low, front.same); most = omega (arith, high, whole, front.same) }

pub no_fronts_between : (least : ℕ) (number keys : List ℕ) → IsPrefix number → 1 ≤ least → HasNone (IsBetween (key (take least number)) (key number)) keys → HasNone (IsFrontKey least number) keys
no_fronts_between least number keys is some none i d inside front = none i d inside (front_between least _ number is some front)

-- No front has more digits than the number.
pub no_longer_fronts : (least : ℕ) (number keys : List ℕ) → length number < least → HasNone (IsFrontKey least number) keys
no_longer_fronts least number keys long i d inside front = omega (arith, long, front.enough, front.few)

-- A front has a digit, so that at least none means at least one.
pub fronts_alike : (least : ℕ) (number keys : List ℕ) (b : Bool) → MatchBool b (HasOne (IsFrontKey (max 1 least) number) keys) (HasNone (IsFrontKey (max 1 least) number) keys)
    → MatchBool b (HasOne (IsFrontKey least number) keys) (HasNone (IsFrontKey least number) keys)
fronts_alike least number keys true one = λ none. one (λ i d inside front. none i d inside (record {
  digits = front.digits;
  some = front.some;
  enough = omega (arith, front.enough, le-max_right 1 least);
  few = front.few;
  same = front.same;
}))
fronts_alike least number keys false none = λ i d inside front. none i d inside (record {
  digits = front.digits;
  some = front.some;
  enough = max_least least front.digits front.some front.enough;
  few = front.few;
  same = front.same;
})
  where
    max_least : (m n : ℕ) → 1 ≤ n → m ≤ n → max 1 m ≤ n
    max_least m n one le = max-le one le

-- Where no key is that of a front with `least` digits or more, one after another, none is among them.
pub no_fronts : (least : ℕ) (number keys : List ℕ) → ((n : ℕ) → least ≤ n → n ≤ length number → HasNone (λ k. k ≡ key (take n number)) keys) → HasNone (IsFrontKey least number) keys
no_fronts least number keys none i d inside front = none front.digits front.enough front.few i d inside (sym front.same)
