-- A new desk meets its rule, and its seats are made one after the other.
use Rattle.std.proofs.Common.{◌≡◌, ℕ, zero, suc, ◌+◌, ◌*◌, ◌^◌, ◌<◌, ◌≤◌, List, [], ◌∷◌, ◌++◌, length, sym, refl, ap, ◌∙◌, subst, arith, length-append, Some, None}
use mathlib.Core.Logic.{dite}
use native.Mathlib.Decide.{ℕ_discrete}
use lib.ListN.{length-replicate}
use Rattle.palm_base.specs.declared.desk.Terms.{Terms}
use Rattle.palm_desk.specs.declared.views.Role.TheVariants.{Driving}
use Rattle.palm_desk.specs.declared.views.View.{View}
use Rattle.palm_desk.specs.Rule.{Holder, IsRuled}
use Rattle.std.proofs.Common.{slice_index, replicate}
use Rattle.std.specs.Prelude.{slice_get}
use Rattle.atomic_table.specs.Table.{opening}
use Rattle.palm_desk.specs.Views.{fresh, starts, maker, newcomer}
use Rattle.atomic_table.specs.Seated.{TableId}
use Rattle.palm_desk.specs.Seats.{CallerState, caller_state}
use Rattle.palm_desk.specs.Holding.{DriverIsReady}
use Rattle.palm_desk.specs.Opened.{terms_with, new_caller, AreNewCallers}
use Rattle.palm_desk.proofs.Ends.{opens_at}

zeros_at : (n i : ℕ) → slice_index (replicate n 0) i ≡ 0
zeros_at zero i = refl
zeros_at (suc n) zero = refl
zeros_at (suc n) (suc i) = zeros_at n i

later : (b n i : ℕ) → 2 ≤ i → slice_index (b ∷ b ∷ replicate n 0) i ≡ 0
later b n zero le = absurd (omega arith)
later b n (suc zero) le = absurd (omega arith)
later b n (suc (suc i)) le = zeros_at n i

pub opens : (base window quota : ℕ) (firsts words : List ℕ) → 0 < length firsts → length firsts ≤ 64 → base ≤ 2 ^ 61 → 0 < window → window ≤ 64 → quota ≤ 2 ^ 40 → words ≡ base ∷ base ∷ replicate (4 * (length firsts * window)) 0
    → IsRuled (terms_with base firsts window quota) (opening words (replicate (length firsts * window) None) (maker (terms_with base firsts window quota)))
opens base window quota firsts words some_caller few low pos small left is =
    let k = terms_with base firsts window quota in
    let long : length words ≡ 4 * (length firsts * window) + 2 = ap length is ∙ (let n : length (replicate {A = ℕ} (4 * (length firsts * window)) 0) ≡ 4 * (length firsts * window) = length-replicate (4 * (length firsts * window)) 0 in omega arith) in
    opens_at k words record { some_caller = few; base = low; some_cell = pos; window = small; quota = left } long (ap (λ l. slice_index l 0) is) (ap (λ l. slice_index l 1) is) (λ i le. ap (λ l. slice_index l i) is ∙ later base (4 * (length firsts * window)) i le)

-- the maker, once n seats are made
abbrev pub made : Terms → ℕ → View
made k n = record { role = Driving; terms = k; calls = fresh k 0; drives = record starts { seats = n } }

at_push : {A : Type 0} (l : List A) (a : A) (i : ℕ) → i ≡ length l → slice_get (l ++ a ∷ []) i ≡ Some a
at_push [] a zero e = refl
at_push [] a (suc i) e = absurd (omega arith)
at_push (x ∷ l) a zero e = absurd (omega arith)
at_push (x ∷ l) a (suc i) e = at_push l a i (omega arith)

at_before : {A : Type 0} (l : List A) (a b : A) (i : ℕ) → slice_get l i ≡ Some b → slice_get (l ++ a ∷ []) i ≡ Some b
at_before [] a b i at = absurd (none_is_some at)
  where
    none_is_some : slice_get [] i ≡ Some b → ⊥
    none_is_some e = cc
at_before (x ∷ l) a b zero at = at
at_before (x ∷ l) a b (suc i) at = at_before l a b i at

pub no_callers : (id : TableId) (k : Terms) → AreNewCallers (record { table = id; terms = k }) 0 []
no_callers id k = record { many = refl; each = λ c lt. absurd (omega arith) }

-- one more seat is made
pub newcomers : (id : TableId) (k : Terms) (n : ℕ) (seats : List CallerState) (s : CallerState) → s ≡ caller_state id (newcomer (made k n)) → AreNewCallers (record { table = id; terms = k }) n seats → AreNewCallers (record { table = id; terms = k }) (n + 1) (seats ++ s ∷ [])
newcomers id k n seats s is all =
    let long = length-append seats (s ∷ []) in let many = all.many in
    record {
      many = omega arith;
      each = λ c lt. dite (ℕ_discrete c n)
          (λ e. at_push seats s c (e ∙ sym many) ∙ ap (λ z. Some z) (is ∙ ap (new_caller (record { table = id; terms = k })) (sym e)))
          (λ ne. at_before seats s (new_caller (record { table = id; terms = k }) c) c (all.each c (omega arith)));
    }

pub driver_new : (words : ℕ) (me : Holder) (base window quota : ℕ) (firsts counts order : List ℕ) → me.0 ≡ made (terms_with base firsts window quota) (length firsts) → me.1 ≡ [] → words ≡ 4 * (length firsts * window) + 2
    → 0 < length firsts → length firsts ≤ 64 → ((i : ℕ) → slice_index firsts i ≤ 2 ^ 61) → base ≤ 2 ^ 61 → 0 < window → window ≤ 64 → quota ≤ 2 ^ 40 → counts ≡ replicate (length firsts) 0 → order ≡ replicate (length firsts * window) 0
    → DriverIsReady words me base window (length firsts) 0 0 firsts counts order
driver_new words me base window quota firsts counts order view empty wide some_caller few firsts_small low pos small left counts_is order_is = subst (λ (v : View). DriverIsReady words (v, me.1) base window (length firsts) 0 0 firsts counts order) (sym view) record {
  role = refl;
  base_is = refl;
  window_is = refl;
  many = refl;
  some_caller = some_caller;
  few = few;
  some_cell = pos;
  small = small;
  words_is = wide;
  firsts_are = refl;
  firsts_small = firsts_small;
  quota_small = left;
  taken_is = refl;
  answered_is = refl;
  behind = omega arith;
  within = omega arith;
  numbers = omega arith;
  counts_many = ap length counts_is ∙ length-replicate (length firsts) 0;
  counts_are = λ c lt. ap (λ l. slice_index l c) counts_is ∙ zeros_at (length firsts) c;
  counts_small = λ c. subst (λ n. n ≤ quota) (sym (ap (λ l. slice_index l c) counts_is ∙ zeros_at (length firsts) c)) (omega arith);
  order_many = ap length order_is ∙ length-replicate (length firsts * window) 0;
  order_is = λ i lo hi. absurd (omega arith);
  order_in = λ i lo hi. absurd (omega arith);
  not_found = refl;
  not_loaded = refl;
  holds = empty;
}
