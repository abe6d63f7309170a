-- Where the cells lie, and what stays of a cell while others move.
use Rattle.std.proofs.Common.{◌≡◌, ℕ, zero, suc, ◌+◌, ◌*◌, ◌%◌, ◌<◌, ◌≤◌, ◌≢◌, ◌⊎◌, List, [], ◌∷◌, ◌++◌, length, get_or, set, sym, refl, ap, ◌∙◌, subst, arith, mod-lt, mul-le-mul_right, suc-mul, length-append, get_or-set_other, get_or-set_same, inl, inr, ⊎_elim}
use mathlib.Core.Option.{some, some-injective, some-ne-none}
use mathlib.Core.Logic.{dite}
use native.Mathlib.Decide.{ℕ_discrete, dec_le}
use lib.ListN.{get_elem?}
use Rattle.atomic_table.proofs.Lists.{at_longer, one_turn}
use Rattle.palm_base.specs.declared.call.Call.{Call}
use Rattle.palm_base.specs.declared.call.Reply.{Reply}
use Rattle.palm_base.specs.declared.desk.Terms.{Terms}
use Rattle.palm_desk.specs.Rule.{Homes, cell, state_at, words_at, Begins, CellOk}
use Rattle.palm_base.proofs.Arrivals.{at_below}
use Rattle.palm_base.specs.Desk.{callers}
use Rattle.palm_desk.specs.Words.{spell}

row_below : (c c' a b w : ℕ) → a < w → c < c' → c * w + a ≢ c' * w + b
row_below c c' a b w la lt e = let m : suc c * w ≤ c' * w = mul-le-mul_right w lt in let s = suc-mul c w in let x : ℕ = c * w in let y : ℕ = c' * w in
    let e' : x + a ≡ y + b = e in let m' : x + w ≤ y = omega (arith, s, m) in omega arith

pub same_row : (c c' a b w : ℕ) → a < w → b < w → c * w + a ≡ c' * w + b → c ≡ c'
same_row c c' a b w la lb e = dite (dec_le (suc c) c') (λ lt. absurd (row_below c c' a b w la lt e)) (λ no. dite (dec_le (suc c') c) (λ lt. absurd (row_below c' c b a w lb lt (sym e))) (λ no'. omega arith))

pub in_rows : (n c a w : ℕ) → c < n → a < w → c * w + a < n * w
in_rows n c a w lt la = let m : suc c * w ≤ n * w = mul-le-mul_right w lt in let s = suc-mul c w in let x : ℕ = c * w in let y : ℕ = n * w in let m' : x + w ≤ y = omega (arith, s, m) in let g : x + a < y = omega arith in g

module _ (k : Terms) (pos : 0 < k.window) where
  pub cell_in : (c j : ℕ) → c < callers k → cell k c j < callers k * k.window
  cell_in c j lt = in_rows (callers k) c (j % k.window) k.window lt (mod-lt j pos)

  -- two calls in one window that share a cell are one call
  pub one_call : (g c j j' : ℕ) → g ≤ j → j < g + k.window → g ≤ j' → j' < g + k.window → cell k c j ≡ cell k c j' → j ≡ j'
  one_call g c j j' a b a' b' e =
      let same : j % k.window ≡ j' % k.window = omega arith in
      dite (dec_le j j') (λ le. one_turn j j' k.window le (omega arith) same) (λ no. sym (one_turn j' j k.window (omega arith) (omega arith) (sym same)))

  pub cells_apart : (got : ℕ → ℕ) (c c' j j' : ℕ) → got c ≤ j → j < got c + k.window → got c' ≤ j' → j' < got c' + k.window → ((c ≡ c') → (j ≡ j') → ⊥) → cell k c j ≢ cell k c' j'
  cells_apart got c c' j j' a b a' b' other e =
      let row : c ≡ c' = same_row c c' (j % k.window) (j' % k.window) k.window (mod-lt j pos) (mod-lt j' pos) e in
      other row (one_call (got c) c j j' a b (subst (λ i. got i ≤ j') (sym row) a') (subst (λ i. j' < got i + k.window) (sym row) b') (e ∙ ap (λ i. cell k i j') (sym row)))

pub begins_else : (ws : List ℕ) (a : ℕ) (xs : List ℕ) (i x : ℕ) → ((n : ℕ) → n < length xs → a + n ≢ i) → Begins ws a xs → Begins (set ws i x) a xs
begins_else ws a xs i x other b n y at = get_or-set_other ws i (a + n) x 0 (other n (at_below xs n y at)) ∙ b n y at

pub begins_snoc : (ws : List ℕ) (a : ℕ) (xs : List ℕ) (x : ℕ) → a + length xs < length ws → Begins ws a xs → Begins (set ws (a + length xs) x) a (xs ++ x ∷ [])
begins_snoc ws a xs x room b n y at = dite (ℕ_discrete n (length xs))
    (λ is. ap (λ i. get_or (set ws (a + length xs) x) (a + i) 0) is ∙ get_or-set_same ws (a + length xs) x 0 room ∙ last xs x y n is at)
    (λ ne. get_or-set_other ws (a + length xs) (a + n) x 0 (λ e. ne (omega arith)) ∙ b n y (before xs x y n ne at))
  where
    last : (l : List ℕ) (a b n : ℕ) → n ≡ length l → get_elem? (l ++ a ∷ []) n ≡ some b → a ≡ b
    last [] a b zero e at = some-injective a b at
    last [] a b (suc n) e at = absurd (omega arith)
    last (z ∷ l) a b zero e at = absurd (omega arith)
    last (z ∷ l) a b (suc n) e at = last l a b n (omega arith) at

    before : (l : List ℕ) (a b n : ℕ) → n ≢ length l → get_elem? (l ++ a ∷ []) n ≡ some b → get_elem? l n ≡ some b
    before [] a b zero ne at = absurd (ne refl)
    before [] a b (suc n) ne at = absurd (some-ne-none b (sym at))
    before (z ∷ l) a b zero ne at = at
    before (z ∷ l) a b (suc n) ne at = before l a b n (λ e. ne (ap suc e)) at

-- the first words of a longer list
pub begins_front : (ws : List ℕ) (a : ℕ) (xs ys : List ℕ) → Begins ws a (xs ++ ys) → Begins ws a xs
begins_front ws a xs ys b n y at = b n y (at_longer xs ys n y at)

module _ (base taken : ℕ) (rs : List Reply) (own : List (ℕ × Call)) (up back : ℕ) (ws : List ℕ) (homes : Homes) (q j : ℕ) where
  -- another word and another slot change
  pub cell_else : (i x : ℕ) (homes' : Homes) → i ≢ state_at q → ((n : ℕ) → n < 3 → words_at q + n ≢ i) → get_elem? homes' q ≡ get_elem? homes q
      → CellOk base taken rs own up back ws homes q j → CellOk base taken rs own up back (set ws i x) homes' q j
  cell_else i x homes' ne nes home ok =
      let same : get_or (set ws i x) (state_at q) 0 ≡ get_or ws (state_at q) 0 = get_or-set_other ws i (state_at q) x 0 (λ e. ne (sym e)) in
      record {
        idle = λ le. let o = ok.idle le in (same ∙ o.0, (λ lt. home ∙ o.1 lt), λ ge. home ∙ o.2 ge);
        posted = λ n call lt at. let o = ok.posted n call lt at in record {
          spelled = begins_else ws (words_at q) (spell call) i x nes o.spelled;
          waits = λ le. let w = o.waits le in (same ∙ w.0, home ∙ w.1);
          held = λ ge lt'. let w = o.held ge lt' in (same ∙ w.0, home ∙ w.1);
          answered = λ r at'. let w = o.answered r at' in (same ∙ w.0, home ∙ w.1);
        };
      }

  -- the caller's list of calls grows
  pub cell_arrives : (own' : List (ℕ × Call)) → ((n : ℕ) (call : Call) → j < up → get_elem? own' j ≡ some (n, call) → get_elem? own j ≡ some (n, call)) → CellOk base taken rs own up back ws homes q j → CellOk base taken rs own' up back ws homes q j
  cell_arrives own' was ok = record { idle = ok.idle; posted = λ n call lt at. ok.posted n call lt (was (base + n) call lt at) }

  -- another call of the caller is posted
  pub cell_posts : j ≢ up → CellOk base taken rs own up back ws homes q j → CellOk base taken rs own (up + 1) back ws homes q j
  cell_posts ne ok = record { idle = λ le. ok.idle (omega arith); posted = λ n call lt at. ok.posted n call (omega arith) at }

  -- another call is taken
  pub cell_taken : ((n : ℕ) (call : Call) → j < up → get_elem? own j ≡ some (base + n, call) → n ≢ taken) → CellOk base taken rs own up back ws homes q j → CellOk base (taken + 1) rs own up back ws homes q j
  cell_taken ne ok = record {
    idle = ok.idle;
    posted = λ n call lt at. let o = ok.posted n call lt at in let other = ne n call lt at in record {
      spelled = o.spelled;
      waits = λ le. o.waits (omega arith);
      held = λ ge lt'. o.held ge (omega arith);
      answered = o.answered;
    };
  }

  -- another call is answered
  pub cell_answered : (r : Reply) → ((n : ℕ) (call : Call) → j < up → get_elem? own j ≡ some (base + n, call) → n ≢ length rs) → CellOk base taken rs own up back ws homes q j → CellOk base taken (rs ++ r ∷ []) own up back ws homes q j
  cell_answered r ne ok = record {
    idle = ok.idle;
    posted = λ n call lt at. let o = ok.posted n call lt at in let other = ne n call lt at in let longer = length-append rs (r ∷ []) in record {
      spelled = o.spelled;
      waits = o.waits;
      held = λ ge lt'. o.held (omega arith) lt';
      answered = λ x at'. ⊎_elim (λ (h : get_elem? rs n ≡ some x). o.answered x h) (λ (h : (n ≡ length rs) × (r ≡ x)). absurd (other h.0)) (at_end rs r x n at');
    };
  }
    where
      at_end : (l : List Reply) (a b : Reply) (n : ℕ) → get_elem? (l ++ a ∷ []) n ≡ some b → (get_elem? l n ≡ some b) ⊎ ((n ≡ length l) × (a ≡ b))
      at_end [] a b zero at = inr (refl, some-injective a b at)
      at_end [] a b (suc n) at = absurd (some-ne-none b (sym at))
      at_end (z ∷ l) a b zero at = inl at
      at_end (z ∷ l) a b (suc n) at = ⊎_elim (λ (h : get_elem? l n ≡ some b). inl h) (λ (h : (n ≡ length l) × (a ≡ b)). inr (ap suc h.0, h.1)) (at_end l a b n at)

-- words of cells, over plain numbers
pub state_word : (q q' l : ℕ) → l < 3 → 4 * q' + 3 + l ≢ 4 * q + 2
state_word q q' l lt e = omega arith

pub word_word : (q q' l n : ℕ) → l < 3 → n < 3 → q ≢ q' → 4 * q + 3 + n ≢ 4 * q' + 3 + l
word_word q q' l n lt lt' ne e = ne (omega arith)

pub state_state : (q q' : ℕ) → q ≢ q' → 4 * q + 2 ≢ 4 * q' + 2
state_state q q' ne e = ne (omega arith)

pub not_first : (q l : ℕ) → (0 ≢ 4 * q + 3 + l) × (1 ≢ 4 * q + 3 + l)
not_first q l = ((λ e. omega arith), λ e. omega arith)

pub not_first_state : (q : ℕ) → (0 ≢ 4 * q + 2) × (1 ≢ 4 * q + 2)
not_first_state q = ((λ e. omega arith), λ e. omega arith)

pub word_within : (q n l w : ℕ) → q < n → l < 3 → w ≡ 4 * n + 2 → 4 * q + 3 + l < w
word_within q n l w lt lt' e = omega arith

pub state_within : (q n w : ℕ) → q < n → w ≡ 4 * n + 2 → 4 * q + 2 < w
state_within q n w lt e = omega arith

pub at_front : {A : Type 0} (l m : List A) (j : ℕ) (a : A) → j < length l → get_elem? (l ++ m) j ≡ some a → get_elem? l j ≡ some a
at_front [] m j a lt at = absurd (omega arith)
at_front (x ∷ l) m zero a lt at = at
at_front (x ∷ l) m (suc j) a lt at = at_front l m j a (omega arith) at

pub begins_none : (ws : List ℕ) (a : ℕ) (xs : List ℕ) → length xs ≡ 0 → Begins ws a xs
begins_none ws a xs e n y at = let lt = at_below xs n y at in absurd (omega arith)

pub word_zero : (q n : ℕ) → 4 * q + 3 + n ≢ 0
word_zero q n e = omega arith

pub word_one : (q n : ℕ) → 4 * q + 3 + n ≢ 1
word_one q n e = omega arith
