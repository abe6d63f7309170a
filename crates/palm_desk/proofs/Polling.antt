-- The steps of a poll, one after the other.
use Rattle.std.proofs.Common.{◌≡◌, ℕ, zero, suc, ◌+◌, ◌-◌, ◌*◌, ◌/◌, ◌%◌, ◌<◌, ◌≤◌, List, [], ◌∷◌, ◌++◌, length, get_or, sym, ap, ◌∙◌, subst, arith, mod-lt, length-append, Some, None}
use mathlib.Core.Option.{none, some, some-injective, some-ne-none}
use lib.ListN.{get_elem?}
use native.Mathlib.Nat.{add-mod_right}
use Rattle.atomic_table.specs.Table.{step, Allows, rest}
use Rattle.palm_base.specs.declared.call.Call.{Call}
use Rattle.palm_base.specs.declared.call.Reply.{Reply}
use Rattle.palm_base.specs.declared.desk.Terms.{Terms}
use Rattle.palm_desk.specs.declared.views.View.{View}
use Rattle.palm_desk.specs.Views.{calling, looked, given_one}
use Rattle.palm_desk.specs.Rule.{Holder, cell, IsRuled}
use Rattle.palm_desk.specs.Plays.{Looks, Collects}
use Rattle.std.proofs.Common.{max, slice_index}
use Rattle.palm_desk.specs.Holding.{held, CallerIsReady}
use Rattle.palm_desk.proofs.Cells.{in_rows}
use mathlib.Core.Path.{Path}
use Rattle.atomic_table.specs.Table.{turned}
use Rattle.palm_desk.proofs.Collecting.{looks_at, collects_at}
use Rattle.atomic_table.specs.Seated.{TableId}
use Rattle.palm_base.specs.declared.call.Reply.{Reply}
use Rattle.palm_desk.specs.CallerCalls.{Polled, after_look, after_reply}
use Rattle.palm_desk.specs.Seats.{CallerState, caller_state}
use Rattle.palm_desk.specs.declared.caller.Poll.TheVariants.{Pending, Ready}
use Rattle.std.specs.Prelude.{slice_get}
use Rattle.palm_base.proofs.Arrivals.{some_at}
use Rattle.std.proofs.lemmas.List.{get_or_default}
use Rattle.palm_base.specs.Desk.{callers}
use Rattle.palm_desk.specs.Views.{Slot}
use Rattle.palm_desk.specs.Views.{filled}

held-snoc : (k : Terms) (c j n : ℕ) → held k c j (n + 1) ≡ held k c j n ++ (cell k c (j + n), None) ∷ []
held-snoc k c j zero = ap (λ i. (cell k c i, None) ∷ []) (let g : j ≡ j + 0 = omega arith in g)
held-snoc k c j (suc n) = ap (held k c j) (let g : suc n + 1 ≡ suc (n + 1) = omega arith in g) ∙ ap {B = List (ℕ × Slot)} (λ l. (cell k c j, None) ∷ l) (held-snoc k c (j + 1) n ∙ ap (λ i. held k c (j + 1) n ++ (cell k c i, None) ∷ []) (let g : j + 1 + n ≡ j + suc n = omega arith in g))

-- the oldest call that isn't collected
abbrev pub IsOldest : View → ℕ → Call → Type 0
IsOldest v n call = get_elem? v.calls.made (length v.calls.collected) ≡ some (n, call)

pub at_place : {A : Type 0} (l : List A) (i : ℕ) (a : A) → get_elem? l i ≡ some a → slice_get l i ≡ Some a
at_place [] i a at = absurd (some-ne-none a (sym at))
at_place (x ∷ l) zero a at = ap (λ y. Some y) (some-injective x a at)
at_place (x ∷ l) (suc i) a at = at_place l i a at

-- the seat after a look, and after a reply n was collected
abbrev pub Looked : Holder → ℕ → Holder
Looked me front = (calling (looked front me.0.calls) me.0, me.1)

abbrev pub Given : Holder → ℕ → ℕ → Reply → List (ℕ × Slot) → Holder
Given me front n r slots = (calling (given_one n r (looked front me.0.calls)) me.0, slots)

pub on_look : (me m' : Holder) (n : ℕ) → Looks (step 0 0 0 0 none) me n m' → Path Holder m' (Looked me n)
on_look me m' n st t = (st.0 t, st.1 t)

module _ (words : ℕ) (me : Holder) (caller window quota made got : ℕ) (numbers : List ℕ) (r : CallerIsReady words me caller window quota made got numbers) where
  pub look_ok : (k : Terms) (slots id : ℕ) → Allows (IsRuled k) slots id me 1 (λ n. n) (Looks (step slots 1 0 0 none) me)
  look_ok k slots id = looks_at k slots id me r.role

  -- the oldest call has the number that was kept
  pub oldest : (x : ℕ) → ((made ≡ got) → ⊥) → x ≡ get_or numbers (got % window) x → (call : Call) × IsOldest me.0 x call
  oldest x ne x_is = let a = r.made_is in let b = r.got_le in
      let many = r.numbers_many in let lt = mod-lt got r.some_cell in
      let x_is' : slice_index numbers (got % window) ≡ x = get_or_default numbers (got % window) 0 x (omega arith) ∙ sym x_is in
      let f = some_at me.0.calls.made got (omega arith) in
      (f.0.1, ap (get_elem? me.0.calls.made) r.got_is ∙ f.1 ∙ ap (λ n. some (n, f.0.1)) (sym (r.numbers_are got f.0.0 f.0.1 (let g : got ≤ got = omega arith in g) (omega arith) f.1) ∙ x_is'))

  place : cell me.0.terms me.0.calls.caller (length me.0.calls.collected) ≡ caller * window + got % window
  place t = r.caller_is t * r.window_is t + r.got_is t % r.window_is t

  pub collect_ok : (k : Terms) (slots id : ℕ) (m : Holder) (front i n : ℕ) (call : Call) → Path Holder m (Looked me front) → IsOldest me.0 n call → n < front → i ≡ 4 * (caller * window + got % window) + 2
      → Allows (IsRuled k) slots id m i (λ _. 0) (Collects (step slots i 0 0 none) m)
  collect_ok k slots id m front i n call e old later i_is = subst (λ (h : Holder). Allows (IsRuled k) slots id h i (λ _. 0) (Collects (step slots i 0 0 none) h)) (sym e)
      (collects_at k slots id (Looked me front) i n call r.role old later (i_is ∙ ap (λ q. 4 * q + 2) (sym place)))

  abbrev q : ℕ
  q = caller * window + got % window

  -- the reply came with its slot
  pub on_collect : (m m' : Holder) (front x i n : ℕ) (call : Call) → Path Holder m (Looked me front) → IsOldest me.0 n call → i ≡ 4 * q + 2 → Collects (step 0 i 0 0 none) m x m' → (y : Reply) × Path Holder m' (Given me front n y ((q, filled n y) ∷ me.1))
  on_collect m m' front x i n call e old i_is st = let st' = subst (λ (h : Holder). Collects (step 0 i 0 0 none) h x m') e st in
      let num : st'.0 ≡ n = ap (λ (z : ℕ × Call). z.0) (some-injective (st'.0, st'.1) (n, call) (sym st'.3 ∙ old)) in
      let cell_is : (i - 2) / 4 ≡ q = omega arith in
      (st'.2, λ t. ((st'.4 ∙ ap (λ z. calling (given_one z st'.2 (looked front me.0.calls)) me.0) num) t, (st'.5 ∙ (λ u. (cell_is u, filled (num u) st'.2) ∷ me.1)) t))

  pub in_cell : 4 * (caller * window + got % window) + 5 < words
  in_cell = let p = in_rows (callers me.0.terms) caller (got % window) window r.known (mod-lt got r.some_cell) in let w = r.words_is in
      let x : ℕ = caller * window + got % window in let y : ℕ = callers me.0.terms * window in let p' : x < y = p in let w' : words ≡ 4 * y + 2 = w in let g : 4 * x + 5 < words = omega arith in g

  pub out : (m : Holder) (front n : ℕ) (y : Reply) → Path Holder m (Given me front n y ((q, filled n y) ∷ me.1)) → (old : Slot) × (m.1 ≡ (q, old) ∷ rest m.1)
  out m front n y e = (filled n y, ap (λ (h : Holder). h.1) e ∙ (λ t. (q, filled n y) ∷ rest (sym e t).1))

  -- what the slot held, and the seat once the slot is empty and behind the others
  pub on_exchange : (m m' m'' : Holder) (front n : ℕ) (y : Reply) (found : Slot) → got < made → Path Holder m (Given me front n y ((q, filled n y) ∷ me.1)) → m.1 ≡ (q, found) ∷ rest m.1 → m' ≡ (m.0, (q, None) ∷ rest m.1) → m'' ≡ (m'.0, turned m'.1)
      → (found ≡ filled n y) × (m''.0 ≡ calling (given_one n y (looked front me.0.calls)) me.0) × CallerIsReady words m'' caller window quota made (got + 1) numbers
  on_exchange m m' m'' front n y found lt e has wrote went =
      let same : found ≡ filled n y = ap front_slot (sym has ∙ ap (λ (h : Holder). h.1) e) in
      let end : m'' ≡ (calling (given_one n y (looked front me.0.calls)) me.0, me.1 ++ (q, None) ∷ []) =
      went ∙ ap (λ (h : Holder). (h.0, turned h.1)) (wrote ∙ ap (λ (h : Holder). (h.0, (q, None) ∷ rest h.1)) e) in
      let b = r.back_is in let room = r.room in let longer = length-append me.0.calls.collected ((n, y) ∷ []) in let g = r.got_is in let pos = r.some_cell in
      let from : ℕ = max window made in
      let more : got + window - from + 1 ≡ got + 1 + window - from = omega arith in
      let again : cell me.0.terms caller (from + (got + window - from)) ≡ q = ap (cell me.0.terms caller) (let z : from + (got + window - from) ≡ got + window = omega arith in z)
      ∙ (λ t. caller * r.window_is t + (got + window) % r.window_is t) ∙ ap (λ z. caller * window + z) (add-mod_right got window) in
      let held' : me.1 ++ (q, None) ∷ [] ≡ held me.0.terms caller from (got + 1 + window - from) =
      (λ t. r.holds t ++ (sym again t, None) ∷ []) ∙ sym (held-snoc me.0.terms caller from (got + window - from)) ∙ ap (held me.0.terms caller from) more in (
        same,
        ap (λ (h : Holder). h.0) end,
        subst (λ (h : Holder). CallerIsReady words h caller window quota made (got + 1) numbers) (sym end) record {
          role = r.role;
          caller_is = r.caller_is;
          window_is = r.window_is;
          quota_is = r.quota_is;
          known = r.known;
          few = r.few;
          some_cell = r.some_cell;
          small = r.small;
          words_is = r.words_is;
          made_is = r.made_is;
          up_is = r.up_is;
          got_is = omega arith;
          draft_is = r.draft_is;
          back_is = r.back_is;
          got_le = omega arith;
          room = omega arith;
          left = r.left;
          quota_small = r.quota_small;
          holds = held';
          numbers_many = r.numbers_many;
          numbers_are = λ j n' call' lo hi at. r.numbers_are j n' call' (omega arith) hi at;
        },
      )
    where
      front_slot : List (ℕ × Slot) → Slot
      front_slot [] = None
      front_slot (x ∷ xs) = x.1

-- what a poll tells, by the view after it
pub told_pending : (id id' : TableId) (v : View) (w : View) (n front : ℕ) (call : Call) → id' ≡ id → IsOldest v n call → front ≤ n → w ≡ calling (looked front v.calls) v → Polled (caller_state id v) (caller_state id' w) Pending
told_pending id id' v w n front call same old le e =
    let now : caller_state id' w ≡ after_look front (caller_state id v) = λ t. caller_state (same t) (e t) in
    let seen : (caller_state id' w).front ≡ front = ap (λ (s : CallerState). s.front) now in
    (n, (call, at_place v.calls.made (length v.calls.collected) (n, call) old), subst (λ f. f ≤ n) (sym seen) le, now ∙ ap (λ f. after_look f (caller_state id v)) (sym seen))

pub told_ready : (id id' : TableId) (v w : View) (front n n' : ℕ) (y y' : Reply) (call : Call) (found : Slot) → id' ≡ id → found ≡ filled n y → found ≡ filled n' y' → IsOldest v n call → n < front
    → w ≡ calling (given_one n y (looked front v.calls)) v → Polled (caller_state id v) (caller_state id' w) (Ready n' y')
told_ready id id' v w front n n' y y' call found same a b old lt e =
    let both : (n, y) ≡ (n', y') = ap (λ (o : Slot). inside o) (sym a ∙ b) in
    subst (λ (z : ℕ × Reply). Polled (caller_state id v) (caller_state id' w) (Ready z.0 z.1)) both told
  where
    inside : Slot → ℕ × Reply
    inside None = (n, y)
    inside (Some x) = (x.number, x.reply)

    told : Polled (caller_state id v) (caller_state id' w) (Ready n y)
    told =
        let now : caller_state id' w ≡ after_reply n y (after_look front (caller_state id v)) = λ t. caller_state (same t) (e t) in
        let seen : (caller_state id' w).front ≡ front = ap (λ (s : CallerState). s.front) now in
        ((call, at_place v.calls.made (length v.calls.collected) (n, call) old), subst (λ f. n < f) (sym seen) lt, now ∙ ap (λ f. after_reply n y (after_look f (caller_state id v))) (sym seen))
