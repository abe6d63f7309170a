-- What is left of a closed desk, put in order: the first call that is left is always the next.
use Rattle.std.proofs.Common.{◌≡◌, ℕ, zero, suc, ◌+◌, ◌-◌, ◌*◌, ◌/◌, ◌%◌, ◌<◌, ◌≤◌, ◌≢◌, max, Bool, true, false, nat_le, cond, List, [], ◌∷◌, ◌++◌, length, take, drop, slice_index, slice_set, filter, sym, refl, ap, ◌∙◌, subst, arith, length-set, suc-mul, get_or-set_other, get_or-set_same, None}
use Rattle.std.specs.List.{enumerate_from}
use mathlib.Core.Option.{some}
use Rattle.std.proofs.lemmas.Bool.Decides.{nat_tests}
use mathlib.Core.Logic.{dite}
use native.Mathlib.Decide.{ℕ_discrete, dec_le}
use lib.ListN.{get_elem?}
use Rattle.std.proofs.lemmas.List.{append-nil}
use Rattle.std.proofs.lemmas.List.Elements.{filter-append}
use Rattle.atomic_table.proofs.Lists.{set_else}
use Rattle.palm_base.specs.Arrivals.{count_of, made_by}
use Rattle.palm_base.specs.Desk.{callers}
use Rattle.palm_base.specs.declared.call.Entry.{Entry}
use Rattle.palm_base.specs.declared.call.Reply.{Reply}
use Rattle.palm_base.proofs.Arrivals.{at_below, some_at, take_one, one_if, one_same, one_other, count_of-take, count_of-take_one, count_of-take_all, length-made_by, call_at}
use Rattle.palm_desk.specs.Leftovers.{End, turn_of, cell_in, IsLeft, IsEnd, RepliesStand, is_left_at, is_left, unread_to, waiting_to, HasLeft, number_at, IsFirstLeft, FindsFirst}
use Rattle.palm_desk.specs.Rule.{state_at}
use Rattle.palm_desk.specs.Views.{Slot}
use Rattle.palm_desk.proofs.Cells.{cells_apart}

-- The calls from the m-th up to the i-th aren't left.
abbrev pub Passed : End → ℕ → ℕ → Type 0
Passed x m i = (p : ℕ) (e : Entry) → m ≤ p → p < i → get_elem? x.log p ≡ some e → turn_of x p e < x.got e.caller

-- Where the callers stand once the first m calls are in order: how many of its calls each has behind it.
abbrev pub cursor : End → ℕ → ℕ → ℕ
cursor x m c = max (x.got c) (count_of c (take m x.log))

pub cursor_passes : (x : End) (c m i : ℕ) → m ≤ i → i ≤ length x.log → Passed x m i → cursor x i c ≡ cursor x m c
cursor_passes x c m zero le short all = ap (λ n. cursor x n c) (let g : 0 ≡ m = omega arith in g)
cursor_passes x c m (suc i) le short all =
    dite (dec_le m i)
    (λ le'. let e = some_at x.log i (omega arith) in
    let before = cursor_passes x c m i le' (omega arith) (λ p y a b. all p y a (omega arith)) in
    let one = count_of-take_one c x.log i e.0 e.1 in
    let next : count_of c (take (suc i) x.log) ≡ count_of c (take i x.log) + one_if e.0.caller c = ap (λ n. count_of c (take n x.log)) (let g : suc i ≡ i + 1 = omega arith in g) ∙ one in
    let passed : count_of e.0.caller (take i x.log) < x.got e.0.caller = all i e.0 le' (omega arith) e.1 in
    dite (ℕ_discrete e.0.caller c)
    (λ is. let is_one = one_same e.0.caller c is in let passed' = subst (λ d. count_of d (take i x.log) < x.got d) is passed in
    (let g : cursor x (suc i) c ≡ cursor x i c = omega arith in g) ∙ before)
    (λ ne. let no_one = one_other e.0.caller c ne in (let g : cursor x (suc i) c ≡ cursor x i c = omega arith in g) ∙ before))
    (λ no. ap (λ n. cursor x n c) (let g : suc i ≡ m = omega arith in g))

-- The replies and the calls without one, up to a call more.
drop_front : {A : Type 0} (l : List A) (r m : ℕ) → m ≤ r → drop r (take m l) ≡ []
drop_front l r zero le = drop_none r
  where
    drop_none : {A : Type 0} (r : ℕ) → drop {A = A} r [] ≡ []
    drop_none zero = refl
    drop_none (suc r) = refl
drop_front [] r (suc m) le = drop_nothing r
  where
    drop_nothing : {A : Type 0} (r : ℕ) → drop {A = A} r [] ≡ []
    drop_nothing zero = refl
    drop_nothing (suc r) = refl
drop_front (y ∷ l) zero (suc m) le = absurd (omega arith)
drop_front (y ∷ l) (suc r) (suc m) le = drop_front l r m (omega arith)

drop_behind : {A : Type 0} (l : List A) (r : ℕ) (a : A) → r ≤ length l → drop r (l ++ a ∷ []) ≡ drop r l ++ a ∷ []
drop_behind l zero a le = refl
drop_behind [] (suc r) a le = absurd (omega arith)
drop_behind (y ∷ l) (suc r) a le = drop_behind l r a (omega arith)

length-take : {A : Type 0} (l : List A) (m : ℕ) → m ≤ length l → length (take m l) ≡ m
length-take l zero le = refl
length-take [] (suc m) le = absurd (omega arith)
length-take (y ∷ l) (suc m) le = ap suc (length-take l m (omega arith))

waiting_next : (x : End) (p : ℕ) (e : Entry) → get_elem? x.log p ≡ some e → length x.replies ≤ p → waiting_to x (p + 1) ≡ waiting_to x p ++ e ∷ []
waiting_next x p e at le =
    let long = length-take x.log p (let b = at_below x.log p e at in omega arith) in
    ap (drop (length x.replies)) (take_one x.log p e at) ∙ drop_behind (take p x.log) (length x.replies) e (omega arith)

waiting_none : (x : End) (m : ℕ) → m ≤ length x.replies → waiting_to x m ≡ []
waiting_none x m le = drop_front x.log (length x.replies) m le

pub enumerate_snoc : {A : Type 0} (n : ℕ) (l : List A) (a : A) → enumerate_from n (l ++ a ∷ []) ≡ enumerate_from n l ++ (n + length l, a) ∷ []
enumerate_snoc n [] a = ap (λ k. (k, a) ∷ []) (let g : n ≡ n + 0 = omega arith in g)
enumerate_snoc {A} n (y ∷ l) a = ap {B = List (ℕ × A)} (λ z. (n, y) ∷ z) (enumerate_snoc (n + 1) l a ∙ ap (λ k. enumerate_from (n + 1) l ++ (k, a) ∷ []) (let g : n + 1 + length l ≡ n + suc (length l) = omega arith in g))

pub filter_snoc : {A : Type 0} (f : A → Bool) (l : List A) (a : A) → filter f (l ++ a ∷ []) ≡ filter f l ++ cond (f a) (a ∷ []) []
filter_snoc f l a = filter-append f l (a ∷ [])

unread_next : (x : End) (p : ℕ) (r : Reply) → get_elem? x.replies p ≡ some r → unread_to x (p + 1) ≡ unread_to x p ++ cond (is_left x (x.terms.base + p)) ((x.terms.base + p, r) ∷ []) []
unread_next x p r at =
    let f : ℕ × Reply → Bool = λ answered. is_left x answered.0 in
    let b : ℕ = x.terms.base in
    let long = length-take x.replies p (let lt = at_below x.replies p r at in omega arith) in
    ap (λ l. filter f (enumerate_from b l)) (take_one x.replies p r at)
    ∙ ap (filter f) (enumerate_snoc b (take p x.replies) r ∙ ap (λ n. enumerate_from b (take p x.replies) ++ (b + n, r) ∷ []) long)
    ∙ filter_snoc f (enumerate_from b (take p x.replies)) (b + p, r)

take_past : {A : Type 0} (l : List A) (p : ℕ) → length l ≤ p → take (p + 1) l ≡ take p l
take_past [] p le = take_nothing (p + 1) ∙ sym (take_nothing p)
  where
    take_nothing : {A : Type 0} (p : ℕ) → take {A = A} p [] ≡ []
    take_nothing zero = refl
    take_nothing (suc p) = refl
take_past (y ∷ l) zero le = absurd (omega arith)
take_past {A} (y ∷ l) (suc p) le = ap (λ n. take n (y ∷ l)) (let g : suc p + 1 ≡ suc (p + 1) = omega arith in g) ∙ ap {B = List A} (λ z. y ∷ z) (take_past l p (omega arith))

-- Whether a call of the history is left, by its number.
pub left_is : (x : End) (p : ℕ) (e : Entry) → get_elem? x.log p ≡ some e → is_left x (x.terms.base + p) ≡ nat_le (x.got e.caller) (turn_of x p e)
left_is x p e at =
    let b : ℕ = x.terms.base in
    let place : b + p - b ≡ p = omega arith in
    ap (λ i. is_left_at x i (get_elem? x.log i)) place ∙ ap (is_left_at x p) at

pub le_true : (a b : ℕ) → a ≤ b → nat_le a b ≡ true
le_true a b le = grind (arith, nat_tests)

pub le_false : (a b : ℕ) → b < a → nat_le a b ≡ false
le_false a b lt = grind (arith, nat_tests)

-- Calls that aren't left change neither list.
module _ (x : End) (words : List ℕ) (ok : IsEnd x words) where
  -- a call without a reply is left
  unanswered_left : (p : ℕ) (e : Entry) → get_elem? x.log p ≡ some e → length x.replies ≤ p → x.got e.caller ≤ turn_of x p e
  unanswered_left p e at le =
      let known = (ok.placed p e at).0 in let g = ok.got_le e.caller known in let more = count_of-take e.caller x.log (length x.replies) p le in omega arith

  pub waiting_passes : (m i : ℕ) → m ≤ i → i ≤ length x.log → Passed x m i → waiting_to x i ≡ waiting_to x m
  waiting_passes m zero le short all = ap (waiting_to x) (let g : 0 ≡ m = omega arith in g)
  waiting_passes m (suc i) le short all =
      dite (dec_le m i)
      (λ le'. let e = some_at x.log i (omega arith) in
      let passed = all i e.0 le' (omega arith) e.1 in
      dite (dec_le (length x.replies) i)
      (λ late. absurd (let l = unanswered_left i e.0 e.1 late in omega arith))
      (λ early. waiting_none x (suc i) (omega arith) ∙ sym (waiting_none x m (omega arith))))
      (λ no. ap (waiting_to x) (let g : suc i ≡ m = omega arith in g))

  pub unread_passes : (m i : ℕ) → m ≤ i → i ≤ length x.log → Passed x m i → unread_to x i ≡ unread_to x m
  unread_passes m zero le short all = ap (unread_to x) (let g : 0 ≡ m = omega arith in g)
  unread_passes m (suc i) le short all =
      dite (dec_le m i)
      (λ le'. let e = some_at x.log i (omega arith) in
      let passed = all i e.0 le' (omega arith) e.1 in
      let before = unread_passes m i le' (omega arith) (λ p y a b. all p y a (omega arith)) in
      let on : suc i ≡ i + 1 = omega arith in
      ap (unread_to x) on ∙ dite (dec_le (suc i) (length x.replies))
      (λ lt. let r = some_at x.replies i lt in
      unread_next x i r.0 r.1 ∙ ap (λ b. unread_to x i ++ cond b ((x.terms.base + i, r.0) ∷ []) []) (left_is x i e.0 e.1 ∙ le_false (x.got e.0.caller) (turn_of x i e.0) passed)
      ∙ append-nil (unread_to x i) ∙ before)
      (λ no. ap (λ l. filter (λ answered. is_left x answered.0) (enumerate_from x.terms.base l)) (take_past x.replies i (omega arith)) ∙ before))
      (λ no. ap (unread_to x) (let g : suc i ≡ m = omega arith in g))

  -- the call of the turn j of the caller c
  abbrev pub Place : ℕ → ℕ → Type 0
  Place c j = (i : ℕ) × (e : Entry) × (get_elem? x.log i ≡ some e) × (e.caller ≡ c) × (count_of c (take i x.log) ≡ j)

  pub place_of : (c j : ℕ) → j < count_of c x.log → Place c j
  place_of c j lt = let y = some_at (made_by c 0 x.log) j (omega (arith, length-made_by c 0 x.log)) in let f = call_at c 0 x.log j y.0.0 y.0.1 y.1 in (f.0, f.1, f.3, f.4, f.6)

-- What is in order once the first m calls of the history are.
pub record Gathered (x : End) (m : ℕ) (got : List ℕ) (slots : List Slot) (waiting : List Entry) (unread : List (ℕ × Reply)) : Type 0 where
  pub short : m ≤ length x.log
  pub gots : (c : ℕ) → c < callers x.terms → slice_index got c ≡ cursor x m c
  pub many : length slots ≡ callers x.terms * x.terms.window
  pub replies : RepliesStand x m slots
  pub waiting_is : waiting ≡ waiting_to x m
  pub unread_is : unread ≡ unread_to x m

-- Where a caller stands: the first call of it that is left.
pub record Stands (x : End) (words got : List ℕ) (m c : ℕ) : Type 0 where
  pub place : ℕ
  pub call : Entry
  pub at : get_elem? x.log place ≡ some call
  pub who : call.caller ≡ c
  pub turn : turn_of x place call ≡ slice_index got c
  pub left : x.got call.caller ≤ turn_of x place call
  pub from : m ≤ place
  pub number : number_at words x.terms.window got c ≡ x.terms.base + place
  pub cell_is : cell_in x place call ≡ c * x.terms.window + slice_index got c % x.terms.window

module _ (x : End) (words : List ℕ) (ok : IsEnd x words) (m : ℕ) (got made : List ℕ) (gots : (c : ℕ) → c < callers x.terms → slice_index got c ≡ cursor x m c) (mades : (c : ℕ) → c < callers x.terms → slice_index made c ≡ count_of c x.log) where
  pub stands : (d : ℕ) → d < callers x.terms → HasLeft got made d → Stands x words got m d
  stands d lt has =
      let g = gots d lt in let all = mades d lt in
      let p = place_of x words ok d (slice_index got d) (omega arith) in
      let i : ℕ = p.0 in let e : Entry = p.1 in
      let turn : turn_of x i e ≡ slice_index got d = ap (λ c. count_of c (take i x.log)) p.3 ∙ p.4 in
      let left : x.got e.caller ≤ turn_of x i e = subst (λ n. x.got e.caller ≤ n) (sym turn) (subst (λ c. x.got c ≤ slice_index got d) (sym p.3) (omega arith)) in
      let one = count_of-take_one d x.log i e p.2 in let is_one = one_same e.caller d p.3 in
      let cell_is : cell_in x i e ≡ d * x.terms.window + slice_index got d % x.terms.window = λ t. p.3 t * x.terms.window + turn t % x.terms.window in
      record {
        place = i;
        call = e;
        at = p.2;
        who = p.3;
        turn = turn;
        left = left;
        from = dite (dec_le m i) (λ le. le) (λ no. absurd (let more = count_of-take d x.log (i + 1) m (omega arith) in let t = p.4 in omega arith));
        number = ap (λ q. slice_index words (state_at q) / 4) (sym cell_is) ∙ ok.numbered i e (p.2, left);
        cell_is = cell_is;
      }

  -- no call before the first that is left is left
  pub none_before : (c n : ℕ) → IsFirstLeft words x.terms.window got made (callers x.terms) c n → (s : Stands x words got m c) → Passed x m s.place
  none_before c n first s p y lo hi at = dite (dec_le (suc (turn_of x p y)) (x.got y.caller)) (λ lt. lt)
      (λ no. absurd
      (let d : ℕ = y.caller in
      let known = (ok.placed p y at).0 in
      let g = gots d known in let all = mades d known in
      let early = count_of-take d x.log m p lo in
      let one = count_of-take_one d x.log p y at in let is_one = one_same d d refl in
      let most = count_of-take_all d x.log (p + 1) in
      let has : HasLeft got made d = omega arith in
      let t = stands d known has in
      let least = first.least d known has in
      let at_t : count_of d (take t.place x.log) ≡ slice_index got d = ap (λ c. count_of c (take t.place x.log)) (sym t.who) ∙ t.turn in
      let low : t.place ≤ p = dite (dec_le t.place p) (λ le. le) (λ no'. absurd (let more = count_of-take d x.log (p + 1) t.place (omega arith) in omega arith)) in
      let a = first.number in let b = s.number in let z = t.number in omega arith))

  -- the callers stand one call further
  pub gots_next : (c n : ℕ) → c < callers x.terms → length got ≡ callers x.terms → IsFirstLeft words x.terms.window got made (callers x.terms) c n → (s : Stands x words got m c)
      → (d : ℕ) → d < callers x.terms → slice_index (slice_set got c (slice_index got c + 1)) d ≡ cursor x (s.place + 1) d
  gots_next c n lt long first s d lt' =
      let one = count_of-take_one d x.log s.place s.call s.at in
      let b = at_below x.log s.place s.call s.at in
      let passes = cursor_passes x d m s.place s.from (omega arith) (none_before c n first s) in
      let g = gots d lt' in
      dite (ℕ_discrete d c)
      (λ is. let is_one = one_same s.call.caller d (s.who ∙ sym is) in
      let turn : count_of d (take s.place x.log) ≡ slice_index got d = ap (λ z. count_of z (take s.place x.log)) (is ∙ sym s.who) ∙ s.turn ∙ ap (slice_index got) (sym is) in
      let left : x.got d ≤ slice_index got d = omega arith in
      ap (slice_index (slice_set got c (slice_index got c + 1))) is ∙ get_or-set_same got c (slice_index got c + 1) 0 (omega arith) ∙ ap (λ z. slice_index got z + 1) (sym is) ∙ (let h : slice_index got d + 1 ≡ cursor x (s.place + 1) d = omega arith in h))
      (λ ne. let no_one = one_other s.call.caller d (λ e. ne (sym e ∙ s.who)) in
      get_or-set_other got c d (slice_index got c + 1) 0 ne ∙ g ∙ sym passes ∙ (let h : cursor x s.place d ≡ cursor x (s.place + 1) d = omega arith in h))

-- The replies of later calls stand in other cells.
pub replies_stay : (x : End) (words : List ℕ) → IsEnd x words → (m i : ℕ) (e : Entry) (slots : List Slot) (q : ℕ) → m ≤ i → IsLeft x i e → cell_in x i e ≡ q → RepliesStand x m slots → RepliesStand x (i + 1) (slice_set slots q None)
replies_stay x words ok m i e slots q from left cell_is stand j y r le left' at =
    let known = (ok.placed i e left.0).0 in let known' = (ok.placed j y left'.0).0 in
    let room = ok.room e.caller known in let room' = ok.room y.caller known' in
    let one = count_of-take_one e.caller x.log i e left.0 in let is_one = one_same e.caller e.caller refl in
    let one' = count_of-take_one y.caller x.log j y left'.0 in let is_one' = one_same y.caller y.caller refl in
    let most = count_of-take_all e.caller x.log (i + 1) in let most' = count_of-take_all y.caller x.log (j + 1) in
    let grows = count_of-take e.caller x.log (i + 1) j le in
    let apart : cell_in x j y ≢ cell_in x i e =
    cells_apart x.terms ok.bounded.some_cell x.got y.caller e.caller (turn_of x j y) (turn_of x i e) left'.1 (omega arith) left.1 (omega arith)
    (λ same turn. let t : count_of e.caller (take j x.log) ≡ turn_of x i e = ap (λ c. count_of c (take j x.log)) (sym same) ∙ turn in omega arith) in
    set_else slots q (cell_in x j y) None (λ e'. apart (e' ∙ sym cell_is)) ∙ stand j y r (omega arith) left' at

replies_later : (x : End) (m i : ℕ) (slots : List Slot) → m ≤ i → RepliesStand x m slots → RepliesStand x (i + 1) slots
replies_later x m i slots le stand j y r le' left at = stand j y r (omega arith) left at

-- One more call is in order: one with a reply, and one without.
module _ (x : End) (words : List ℕ) (ok : IsEnd x words) (m : ℕ) (got made : List ℕ) (slots : List Slot) (waiting : List Entry) (unread : List (ℕ × Reply)) (g : Gathered x m got slots waiting unread)
    (mades : (c : ℕ) → c < callers x.terms → slice_index made c ≡ count_of c x.log) (long : length got ≡ callers x.terms) (c n : ℕ) (first : IsFirstLeft words x.terms.window got made (callers x.terms) c n) where
  pub here : Stands x words got m c
  here = stands x words ok m got made g.gots mades c first.inside first.left

  got' : List ℕ
  got' = slice_set got c (slice_index got c + 1)

  passed : Passed x m here.place
  passed = none_before x words ok m got made g.gots mades c n first here

  pub number_is : n ≡ x.terms.base + here.place
  number_is = first.number ∙ here.number

  pub more_unread : (r : Reply) → get_elem? x.replies here.place ≡ some r → Gathered x (here.place + 1) (slice_set got c (slice_index got c + 1)) (slice_set slots (c * x.terms.window + slice_index got c % x.terms.window) None) waiting (unread ++ (n, r) ∷ [])
  more_unread r at =
      let i : ℕ = here.place in let e = here.call in
      let b = at_below x.log i e here.at in
      let early = at_below x.replies i r at in
      let from = here.from in
      let is : is_left x (x.terms.base + i) ≡ true = left_is x i e here.at ∙ le_true (x.got e.caller) (turn_of x i e) here.left in
      record {
        short = omega arith;
        gots = gots_next x words ok m got made g.gots mades c n first.inside long first here;
        many = length-set slots (c * x.terms.window + slice_index got c % x.terms.window) None ∙ g.many;
        replies = replies_stay x words ok m i e slots (c * x.terms.window + slice_index got c % x.terms.window) here.from (here.at, here.left) here.cell_is g.replies;
        waiting_is = g.waiting_is ∙ waiting_none x m (omega arith) ∙ sym (waiting_none x (i + 1) (omega arith));
        unread_is = (λ t. (g.unread_is ∙ sym (unread_passes x words ok m i here.from (omega arith) passed)) t ++ (number_is t, r) ∷ [])
            ∙ ap (λ z. unread_to x i ++ cond z ((x.terms.base + i, r) ∷ []) []) (sym is) ∙ sym (unread_next x i r at);
      }

  pub more_waiting : (y : Entry) → length x.replies ≤ here.place → y ≡ here.call → Gathered x (here.place + 1) (slice_set got c (slice_index got c + 1)) slots (waiting ++ y ∷ []) unread
  more_waiting y late y_is =
      let i : ℕ = here.place in let e = here.call in
      let b = at_below x.log i e here.at in
      record {
        short = omega arith;
        gots = gots_next x words ok m got made g.gots mades c n first.inside long first here;
        many = g.many;
        replies = replies_later x m i slots here.from g.replies;
        waiting_is = (λ t. (g.waiting_is ∙ sym (waiting_passes x words ok m i here.from (omega arith) passed)) t ++ y_is t ∷ []) ∙ sym (waiting_next x i e here.at late);
        unread_is = g.unread_is ∙ sym (unread_passes x words ok m i here.from (omega arith) passed)
            ∙ ap (λ l. filter (λ answered. is_left x answered.0) (enumerate_from x.terms.base l)) (sym (take_past x.replies i late));
      }

-- Nothing more is left, so all is in order.
module _ (x : End) (words : List ℕ) (ok : IsEnd x words) (m : ℕ) (got made : List ℕ) (slots : List Slot) (waiting : List Entry) (unread : List (ℕ × Reply)) (g : Gathered x m got slots waiting unread)
    (mades : (c : ℕ) → c < callers x.terms → slice_index made c ≡ count_of c x.log) (none_left : FindsFirst words x.terms.window got made (callers x.terms) None) where
  all_passed : Passed x m (length x.log)
  all_passed p y lo hi at =
      let d : ℕ = y.caller in
      let known = (ok.placed p y at).0 in
      let a = g.gots d known in let all = mades d known in let le = none_left d known in
      let early = count_of-take d x.log m p lo in
      let one = count_of-take_one d x.log p y at in let is_one = one_same d d refl in
      let most = count_of-take_all d x.log (p + 1) in
      dite (dec_le (suc (turn_of x p y)) (x.got d)) (λ lt. lt) (λ no. absurd (omega arith))

  pub all_waiting : waiting ≡ waiting_to x (length x.log)
  all_waiting = g.waiting_is ∙ sym (waiting_passes x words ok m (length x.log) g.short (let h : length x.log ≤ length x.log = omega arith in h) all_passed)

  pub all_unread : unread ≡ unread_to x (length x.log)
  all_unread = g.unread_is ∙ sym (unread_passes x words ok m (length x.log) g.short (let h : length x.log ≤ length x.log = omega arith in h) all_passed)

-- How many calls are left.
abbrev pub remaining : List ℕ → List ℕ → ℕ
remaining [] made = 0
remaining (g ∷ got) [] = 0
remaining (g ∷ got) (m ∷ made) = (m - g) + remaining got made

pub remaining_less : (got made : List ℕ) (c : ℕ) → c < length got → c < length made → HasLeft got made c → remaining (slice_set got c (slice_index got c + 1)) made + 1 ≡ remaining got made
remaining_less [] made c lt lt' has = absurd (omega arith)
remaining_less (g ∷ got) [] c lt lt' has = absurd (omega arith)
remaining_less (g ∷ got) (m ∷ made) zero lt lt' has = let h : g < m = has in omega arith
remaining_less (g ∷ got) (m ∷ made) (suc c) lt lt' has = omega (arith, remaining_less got made c (omega arith) (omega arith) has)

pub remaining_most : (got made : List ℕ) (w : ℕ) → ((c : ℕ) → c < length got → slice_index made c ≤ slice_index got c + w) → remaining got made ≤ length got * w
remaining_most [] made w all = omega arith
remaining_most (g ∷ got) [] w all = omega arith
remaining_most (g ∷ got) (m ∷ made) w all =
    let rest = remaining_most got made w (λ c lt. all (suc c) (omega arith)) in
    let first : m ≤ g + w = all 0 (omega arith) in
    let s = suc-mul (length got) w in let y : ℕ = length got * w in
    let rest' : remaining got made ≤ y = rest in
    omega (arith, s)
