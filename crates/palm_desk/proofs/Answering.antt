-- The steps of an answer, and of the end of a batch.
use Rattle.std.proofs.Common.{◌≡◌, ℕ, suc, ◌+◌, ◌-◌, ◌*◌, ◌%◌, ◌<◌, ◌≤◌, List, [], ◌∷◌, length, get_or, take, sym, refl, ap, ◌∙◌, subst, arith, mod-lt, mul-le-mul_right, length-append, None}
use mathlib.Core.Option.{none}
use lib.ListN.{get_elem?}
use Rattle.atomic_table.specs.Table.{step, Allows, rest}
use Rattle.palm_base.specs.declared.call.Reply.{Reply}
use Rattle.palm_base.specs.declared.desk.Terms.{Terms}
use Rattle.palm_base.specs.Arrivals.{count_of}
use Rattle.palm_desk.specs.declared.views.View.{View}
use Rattle.palm_desk.specs.Rule.{Holder, cell, IsRuled}
use Rattle.palm_base.proofs.Arrivals.{some_at}
use Rattle.palm_desk.specs.Views.{driving, replied}
use Rattle.palm_desk.specs.Plays.{Answers, Finishes}
use Rattle.atomic_table.specs.Table.{Step}
use Rattle.std.proofs.lemmas.List.{get_or_default}
use Rattle.palm_desk.specs.Holding.{cell_of, cell_at, owed, DriverIsReady}
use Rattle.palm_desk.proofs.Taking.{answers_at, finishes_at}
use Rattle.palm_desk.specs.Views.{Slot}
use Rattle.palm_desk.specs.Views.{filled}

abbrev any : Step Slot
any = step 0 0 0 0 none

module _ (words : ℕ) (me : Holder) (base window many taken answered : ℕ) (firsts counts order : List ℕ) (r : DriverIsReady words me base window many taken answered firsts counts order) where
  pub below : length me.0.drives.replies < length me.0.drives.taken → answered < taken
  below lt = let a = r.answered_is in let t = r.taken_is in omega arith

  -- there are few words, and more than one
  pub some_words : (1 < words) × (many * window ≤ 4096)
  some_words = let m : many * window ≤ 64 * window = mul-le-mul_right window r.few in let w = r.words_is in let small = r.small in let x : ℕ = many * window in let w' : words ≡ 4 * x + 2 = w in let m' : x ≤ 64 * window = m in
      ((let g : 1 < words = omega arith in g), let g : x ≤ 4096 = omega arith in g)

  pub finish_ok : (k : Terms) (slots id x : ℕ) → x ≡ base + answered → Allows (IsRuled k) slots id me 1 (λ _. x) (λ _. Finishes (step slots 1 x 0 none) me x)
  finish_ok k slots id x x_is = finishes_at k slots id me x r.role (x_is ∙ (λ t. sym r.base_is t + sym r.answered_is t))

  -- the cell of the first call that isn't answered
  pub front : (q : ℕ) → answered < taken → q ≡ get_or order (answered % (many * window)) q → (q ≡ cell_at me.0.terms me.0.drives.taken answered) × (q < many * window)
  front q lt q_is = let cells : 0 < many * window = product many window r.some_caller r.some_cell in
      let size = r.order_many in let below = mod-lt answered cells in
      let is : q ≡ cell_at me.0.terms me.0.drives.taken answered = q_is ∙ get_or_default order (answered % (many * window)) q 0 (omega arith) ∙ r.order_is answered (let g : answered ≤ answered = omega arith in g) lt in
      (is, subst (λ z. z < many * window) (sym is) (r.order_in answered (let g : answered ≤ answered = omega arith in g) lt))
    where
      product : (a b : ℕ) → 0 < a → 0 < b → 0 < a * b
      product a b x y = grind arith

  pub carried : answered < taken → me.1 ≡ (cell_at me.0.terms me.0.drives.taken answered, None) ∷ owed me.0.terms me.0.drives.taken (answered + 1) (taken - (answered + 1))
  carried lt = r.holds ∙ ap (owed me.0.terms me.0.drives.taken answered) (let g : taken - answered ≡ suc (taken - (answered + 1)) = omega arith in g)

  abbrev Filled : ℕ → Reply → Holder
  Filled q y = (me.0, (q, filled (base + answered) y) ∷ rest me.1)

  pub answer_ok : (k : Terms) (slots id q i x : ℕ) (y : Reply) (m : Holder) → answered < taken → q ≡ cell_at me.0.terms me.0.drives.taken answered → m ≡ Filled q y → i ≡ 4 * q + 2 → x ≡ 4 * (base + answered) + 3
      → Allows (IsRuled k) slots id m i (λ _. x) (λ _. Answers (step slots i x 0 none) m x)
  answer_ok k slots id q i x y m lt q_is e i_is x_is = subst (λ (h : Holder). Allows (IsRuled k) slots id h i (λ _. x) (λ _. Answers (step slots i x 0 none) h x)) (sym e)
      (let t = r.taken_is in let f = some_at me.0.drives.taken answered (omega arith) in
      answers_at k slots id (Filled q y) i x (base + answered) q f.0 y r.role (ap (get_elem? me.0.drives.taken) r.answered_is ∙ f.1) (λ z. sym r.base_is z + sym r.answered_is z)
      (q_is ∙ ap (cell_of me.0.terms me.0.drives.taken answered) f.1 ∙ (λ z. cell me.0.terms f.0.caller (count_of f.0.caller (take (sym r.answered_is z) me.0.drives.taken)))) i_is x_is refl)

  pub on_answer : (q : ℕ) (y : Reply) (m m' : Holder) → answered < taken → m ≡ Filled q y → Answers any m 0 m' → (m'.0 ≡ driving (replied y me.0.drives) me.0) × DriverIsReady words m' base window many taken (answered + 1) firsts counts order
  on_answer q y m m' lt e st =
      let st' = subst (λ (h : Holder). Answers any h 0 m') e st in
      let view = st'.0 y refl in
      let longer = length-append me.0.drives.replies (y ∷ []) in let a = r.answered_is in let w = r.within in (
        view,
        subst (λ (v : View). DriverIsReady words (v, m'.1) base window many taken (answered + 1) firsts counts order) (sym view) record {
          role = r.role;
          base_is = r.base_is;
          window_is = r.window_is;
          many = r.many;
          some_caller = r.some_caller;
          few = r.few;
          some_cell = r.some_cell;
          small = r.small;
          words_is = r.words_is;
          firsts_are = r.firsts_are;
          firsts_small = r.firsts_small;
          quota_small = r.quota_small;
          taken_is = r.taken_is;
          answered_is = omega arith;
          behind = omega arith;
          within = omega arith;
          numbers = r.numbers;
          counts_many = r.counts_many;
          counts_are = r.counts_are;
          counts_small = r.counts_small;
          order_many = r.order_many;
          order_is = λ i lo hi. r.order_is i (omega arith) hi;
          order_in = λ i lo hi. r.order_in i (omega arith) hi;
          not_found = r.not_found;
          not_loaded = r.not_loaded;
          holds = st'.1 ∙ ap rest (carried lt);
        },
      )
