-- The steps of a submit, one after the other.
use Rattle.std.proofs.Common.{◌≡◌, ℕ, suc, ◌+◌, ◌-◌, ◌*◌, ◌%◌, ◌^◌, ◌<◌, ◌≤◌, List, [], ◌∷◌, ◌++◌, length, get_or, set, sym, refl, ap, ◌∙◌, subst, arith, mod-lt, length-set, length-append, get_or-set_other, get_or-set_same, None}
use mathlib.Core.Option.{none, some-injective}
use mathlib.Core.Logic.{dite}
use native.Mathlib.Decide.{ℕ_discrete, dec_le}
use lib.ListN.{get_elem?}
use Rattle.atomic_table.specs.Table.{Step, step, Allows, rest}
use Rattle.palm_base.specs.declared.call.Call.{Call}
use Rattle.palm_base.specs.declared.desk.Terms.{Terms}
use Rattle.palm_desk.specs.declared.views.View.{View}
use Rattle.palm_desk.specs.Views.{calling, drafted, arrived, posted_one}
use Rattle.palm_desk.specs.Rule.{Holder, cell, IsRuled}
use Rattle.palm_desk.specs.Plays.{Drafts, Arrives, Posts}
use Rattle.std.proofs.Common.{max, slice_set}
use Rattle.palm_desk.specs.Holding.{held, CallerIsReady}
use Rattle.palm_desk.proofs.Callers.{drafts, arrives_at, posts_at}
use Rattle.atomic_table.proofs.Lists.{at_last, one_turn}
use Rattle.palm_desk.proofs.Cells.{at_front, in_rows}
use mathlib.Core.Path.{Path}
use Rattle.palm_base.specs.Desk.{callers}
use Rattle.palm_desk.specs.Views.{Slot}
use Rattle.palm_desk.specs.Words.{spell, IsCall, first_word, second_word, third_word}

-- a step, where what it tells does not depend on which it is
abbrev any : Step Slot
any = step 0 0 0 0 none

-- the seat with a draft, and with a call that has arrived
abbrev pub Drafted : Holder → List ℕ → Holder
Drafted me xs = (calling (record me.0.calls { draft = xs }) me.0, me.1)

abbrev pub With : Holder → ℕ → Call → Holder
With me n call = (calling (arrived n call me.0.calls) me.0, me.1)

pub at_first : (me : Holder) → me.0.calls.draft ≡ [] → Path Holder me (Drafted me [])
at_first me e t = (record me.0 { calls = record me.0.calls { draft = e t } }, me.1)

pub on_draft : (me m m' : Holder) (xs : List ℕ) (n : ℕ) → Path Holder m (Drafted me xs) → Drafts any m n m' → Path Holder m' (Drafted me (xs ++ n ∷ []))
on_draft me m m' xs n e st = λ t. ((st.0 ∙ ap (λ (h : Holder). calling (drafted n h.0.calls) h.0) e) t, (st.1 ∙ ap (λ (h : Holder). h.1) e) t)

pub on_arrive : (me m m' : Holder) (call : Call) (n : ℕ) → IsCall call → Path Holder m (Drafted me (spell call)) → Arrives any m n m' → (n < 2 ^ 62) × (me.0.calls.front ≤ n) × Path Holder m' (With me n call)
on_arrive me m m' call n legal e st = let st' = subst (λ (h : Holder). Arrives any h n m') e st in (st'.0, st'.1, λ t. (st'.2 call legal refl t, st'.3 t))

-- the three words that were stored spell the call
pub all_stored : (me m : Holder) (call : Call) (a b d : ℕ) → Path Holder m (Drafted me (a ∷ b ∷ d ∷ [])) → a ≡ first_word call → b ≡ second_word call → d ≡ third_word call → Path Holder m (Drafted me (spell call))
all_stored me m call a b d e a_is b_is d_is = e ∙ (λ t. Drafted me (a_is t ∷ b_is t ∷ d_is t ∷ []))

-- the words of the cell are words of the table
pub in_words : (words : ℕ) (me : Holder) (caller window quota made got : ℕ) (numbers : List ℕ) → CallerIsReady words me caller window quota made got numbers → 4 * (caller * window + made % window) + 5 < words
in_words words me caller window quota made got numbers r = let q = in_rows (callers me.0.terms) caller (made % window) window r.known (mod-lt made r.some_cell) in let w = r.words_is in
    let x : ℕ = caller * window + made % window in let y : ℕ = callers me.0.terms * window in let q' : x < y = q in let w' : words ≡ 4 * y + 2 = w in let g : 4 * x + 5 < words = omega arith in g

module _ (words : ℕ) (me : Holder) (caller window quota made got : ℕ) (numbers : List ℕ) (r : CallerIsReady words me caller window quota made got numbers) (k : Terms) (slots id : ℕ) where
  place : cell me.0.terms me.0.calls.caller me.0.calls.up ≡ caller * window + made % window
  place t = r.caller_is t * r.window_is t + r.up_is t % r.window_is t

  pub draft_ok : (m : Holder) (xs : List ℕ) (i x : ℕ) → made < got + window → length xs < 3 → i ≡ 4 * (caller * window + made % window) + 3 + length xs → Path Holder m (Drafted me xs)
      → Allows (IsRuled k) slots id m i (λ _. x) (λ _. Drafts (step slots i x 0 none) m x)
  draft_ok m xs i x free short i_is e = subst (λ (h : Holder). Allows (IsRuled k) slots id h i (λ _. x) (λ _. Drafts (step slots i x 0 none) h x)) (sym e)
      (let a = r.made_is in let b = r.got_is in let c = r.window_is in drafts k slots id (Drafted me xs) i x r.role short (r.up_is ∙ sym r.made_is) (omega arith) (i_is ∙ ap (λ q. 4 * q + 3 + length xs) (sym place)))

  pub arrive_ok : (m : Holder) (call : Call) → IsCall call → made < got + window → made < quota → Path Holder m (Drafted me (spell call)) → Allows (IsRuled k) slots id m 0 (λ n. (n + 1) % 2 ^ 64) (Arrives (step slots 0 1 0 none) m)
  arrive_ok m call legal free left e = subst (λ (h : Holder). Allows (IsRuled k) slots id h 0 (λ n. (n + 1) % 2 ^ 64) (Arrives (step slots 0 1 0 none) h)) (sym e)
      (let a = r.made_is in let b = r.got_is in let c = r.window_is in let d = r.quota_is in arrives_at k slots id (Drafted me (spell call)) call legal r.role refl (r.up_is ∙ sym r.made_is) (omega arith) (omega arith))

  carries : made < got + window → me.0.calls.back ≤ me.0.calls.up → me.1 ≡ (cell me.0.terms me.0.calls.caller me.0.calls.up, None) ∷ rest me.1
  carries free le =
      let b = r.back_is in let u = r.up_is in
      let from : max window made ≡ made = omega arith in
      let some_left : got + window - max window made ≡ suc (got + window - made - 1) = omega arith in
      let all : me.1 ≡ (cell me.0.terms caller made, None) ∷ held me.0.terms caller (made + 1) (got + window - made - 1) = r.holds ∙ (λ t. held me.0.terms caller (from t) (some_left t)) in
      let front : cell me.0.terms caller made ≡ cell me.0.terms me.0.calls.caller me.0.calls.up = λ t. cell me.0.terms (sym r.caller_is t) (sym r.up_is t) in
      all ∙ (λ t. (front t, None) ∷ rest (sym all t))

  pub post_ok : (m : Holder) (call : Call) (i x n : ℕ) → made < got + window → i ≡ 4 * (caller * window + made % window) + 2 → x ≡ 4 * n + 1 → Path Holder m (With me n call)
      → Allows (IsRuled k) slots id m i (λ _. x) (λ _. Posts (step slots i x 0 none) m x)
  post_ok m call i x n free i_is x_is e = subst (λ (h : Holder). Allows (IsRuled k) slots id h i (λ _. x) (λ _. Posts (step slots i x 0 none) h x)) (sym e)
      (let longer = length-append me.0.calls.made ((n, call) ∷ []) in let u = r.up_is in let l = r.made_is in
      posts_at k slots id (With me n call) i x n call r.role (omega arith) (at_last me.0.calls.made (n, call) me.0.calls.up (l ∙ sym u)) x_is (i_is ∙ ap (λ q. 4 * q + 2) (sym place)) (carries free))

module _ (words : ℕ) (me : Holder) (caller window quota made got : ℕ) (numbers : List ℕ) (r : CallerIsReady words me caller window quota made got numbers) where
  pub on_post : (m m' : Holder) (call : Call) (n : ℕ) → made < got + window → made < quota → Path Holder m (With me n call) → Posts any m n m'
      → (m'.0 ≡ calling (posted_one (arrived n call me.0.calls)) me.0) × CallerIsReady words m' caller window quota (made + 1) got (slice_set numbers (made % window) n)
  on_post m m' call n free left e st =
      let st' = subst (λ (h : Holder). Posts any h n m') e st in
      let longer = length-append me.0.calls.made ((n, call) ∷ []) in let u = r.up_is in let l = r.made_is in let b = r.back_is in let g = r.got_le in let pos = r.some_cell in
      let held' : m'.1 ≡ held me.0.terms caller (max window (made + 1)) (got + window - max window (made + 1)) = dite (dec_le window made)
      (λ le. let from : max window made ≡ made = omega arith in
      let some_left : got + window - max window made ≡ suc (got + window - max window (made + 1)) = omega arith in
      let next : made + 1 ≡ max window (made + 1) = omega arith in
      st'.2 (omega arith) ∙ ap rest (r.holds ∙ (λ t. held me.0.terms caller (from t) (some_left t))) ∙ ap (λ z. held me.0.terms caller z (got + window - max window (made + 1))) next)
      (λ no. let same : max window made ≡ max window (made + 1) = omega arith in st'.1 (omega arith) ∙ r.holds ∙ ap (λ z. held me.0.terms caller z (got + window - z)) same) in (
        st'.0,
        subst (λ (v : View). CallerIsReady words (v, m'.1) caller window quota (made + 1) got (slice_set numbers (made % window) n)) (sym st'.0)
            record {
              role = r.role;
              caller_is = r.caller_is;
              window_is = r.window_is;
              quota_is = r.quota_is;
              known = r.known;
              few = r.few;
              some_cell = r.some_cell;
              small = r.small;
              words_is = r.words_is;
              made_is = omega arith;
              up_is = omega arith;
              got_is = r.got_is;
              draft_is = refl;
              back_is = r.back_is;
              got_le = omega arith;
              room = omega arith;
              left = omega arith;
              quota_small = r.quota_small;
              holds = held';
              numbers_many = length-set numbers (made % window) n ∙ r.numbers_many;
              numbers_are = λ j n' call' lo hi at. dite (ℕ_discrete j made)
                  (λ is. let there = at_last me.0.calls.made (n, call) made l in let both = some-injective (n, call) (n', call') (sym there ∙ ap (get_elem? (me.0.calls.made ++ (n, call) ∷ [])) (sym is) ∙ at) in
                  let many = r.numbers_many in let inside : made % window < length numbers = (let lt = mod-lt made pos in omega arith) in
                  ap (λ z. get_or (set numbers (made % window) n) (z % window) 0) is ∙ get_or-set_same numbers (made % window) n 0 inside ∙ ap (λ (z : ℕ × Call). z.0) both)
                  (λ ne. get_or-set_other numbers (made % window) (j % window) n 0 (λ same. ne (one_turn j made window (omega arith) (omega arith) same))
                  ∙ r.numbers_are j n' call' lo (omega arith) (at_front me.0.calls.made ((n, call) ∷ []) j (n', call') (omega arith) at));
            },
      )
