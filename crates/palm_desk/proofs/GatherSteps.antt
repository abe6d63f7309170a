-- One turn of the gathering: what its steps need, and what they leave.
use Rattle.std.proofs.Common.{◌≡◌, ℕ, zero, suc, ◌+◌, ◌*◌, ◌%◌, ◌<◌, ◌≤◌, Bool, true, false, nat_lt, max, List, [], ◌∷◌, ◌++◌, length, get_or, drop, slice_index, slice_set, sym, refl, ap, ◌∙◌, subst, arith, mod-lt, mul-le-mul_right, length-append, Some, None}
use Rattle.std.specs.Prelude.{slice_get}
use mathlib.Core.Option.{some}
use mathlib.Core.Path.{Path}
use lib.ListN.{get_elem?}
use Rattle.std.proofs.lemmas.Bool.Decides.{nat_tests}
use Rattle.palm_base.specs.Arrivals.{entry, count_of}
use Rattle.palm_base.specs.Desk.{callers}
use Rattle.palm_base.specs.declared.call.Call.{Call}
use Rattle.palm_base.specs.declared.call.Entry.{Entry}
use Rattle.palm_base.specs.declared.call.Reply.{Reply}
use Rattle.palm_base.proofs.Arrivals.{some_at}
use Rattle.palm_desk.specs.Leftovers.{End, IsStart, IsFirstLeft, FindsFirst, KeepsCounts, PutsUnread, PutsWaiting, unread_to, waiting_to, cell_in}
use Rattle.palm_desk.specs.Rule.{Begins, words_at}
use Rattle.palm_desk.specs.Views.{filled}
use Rattle.palm_desk.specs.Words.{spell, IsCall}
use Rattle.palm_desk.specs.declared.driver.Left.{Left}
use Rattle.palm_desk.proofs.Cells.{in_rows}
use Rattle.palm_desk.proofs.Gathering.{Gathered, Stands, here, more_unread, more_waiting, all_waiting, all_unread, remaining, remaining_less, remaining_most}
use Rattle.palm_desk.proofs.Polling.{at_place}

-- A fact whose parts are equal.
moved : {A B : Type 0} → Path (Type 0) A B → A → B
moved e a = subst (λ (T : Type 0). T) e a

-- An item that was read within the list is the item there, whatever stands for the items beyond it.
pub read_within : (l : List ℕ) (c n t d : ℕ) → c < n → length l ≡ n → t ≡ get_or l c d → t ≡ slice_index l c
read_within l c n t d lt long e = e ∙ same l c (omega arith)
  where
    same : (l : List ℕ) (c : ℕ) → c < length l → get_or l c d ≡ get_or l c 0
    same [] c lt = absurd (omega arith)
    same (x ∷ l) zero lt = refl
    same (x ∷ l) (suc c) lt = same l c (omega arith)

-- What a test of two numbers says.
lt_of : (a b : ℕ) → nat_lt a b ≡ true → a < b
lt_of a b e = grind (arith, nat_tests)

le_of : (a b : ℕ) → nat_lt a b ≡ false → b ≤ a
le_of a b e = grind (arith, nat_tests)

-- At the start nothing is in order.
pub begins : (x : End) (words firsts : List ℕ) (window fw : ℕ) (left : Left) → IsStart x words firsts window fw left → Gathered x 0 left.got.items left.slots.items left.waiting.items left.unread.items
begins x words firsts window fw left s = record {
  short = omega arith;
  gots = λ c lt. s.got_are c lt ∙ (let g : x.got c ≡ max (x.got c) 0 = omega arith in g);
  many = s.slots_many;
  replies = s.replies;
  waiting_is = s.waiting ∙ sym (drop_none (length x.replies));
  unread_is = s.unread;
}
  where
    drop_none : (r : ℕ) → drop {A = Entry} r [] ≡ []
    drop_none zero = refl
    drop_none (suc r) = refl

module _ (x : End) (words firsts : List ℕ) (window fw : ℕ) (left₀ left : Left) (s : IsStart x words firsts window fw left₀) (m : ℕ) (g : Gathered x m left.got.items left.slots.items left.waiting.items left.unread.items)
    (long : length left.got.items ≡ length left₀.got.items) (made : left.made.items ≡ left₀.made.items) where
  pub got_long : length left.got.items ≡ callers x.terms
  got_long = long ∙ s.got_long

  mades : (c : ℕ) → c < callers x.terms → slice_index left.made.items c ≡ count_of c x.log
  mades c lt = ap (λ l. slice_index l c) made ∙ s.made_are c lt

  -- what the look finds
  pub found : (d e : List ℕ) (c n : ℕ) → d ≡ left.got.items → e ≡ left.made.items → FindsFirst words window d e (length d) (Some (c, n)) → IsFirstLeft words x.terms.window left.got.items left.made.items (callers x.terms) c n
  found d e c n d_is e_is f = moved (λ t. IsFirstLeft words (s.window_is t) (d_is t) (e_is t) ((ap length d_is ∙ got_long) t) c n) f

  pub found_none : (d e : List ℕ) → d ≡ left.got.items → e ≡ left.made.items → FindsFirst words window d e (length d) None → (left.waiting.items ≡ waiting_to x (length x.log)) × (left.unread.items ≡ unread_to x (length x.log))
  found_none d e d_is e_is f =
      let none_left : FindsFirst words x.terms.window left.got.items left.made.items (callers x.terms) None = moved (λ t. FindsFirst words (s.window_is t) (d_is t) (e_is t) ((ap length d_is ∙ got_long) t) None) f in
      (all_waiting x words s.at_end m left.got.items left.made.items left.slots.items left.waiting.items left.unread.items g mades none_left, all_unread x words s.at_end m left.got.items left.made.items left.slots.items left.waiting.items left.unread.items g mades none_left)

  module _ (c n turn : ℕ) (first : IsFirstLeft words x.terms.window left.got.items left.made.items (callers x.terms) c n) (turn_is : turn ≡ slice_index left.got.items c) where
    abbrev stand : Stands x words left.got.items m c
    stand = here x words s.at_end m left.got.items left.made.items left.slots.items left.waiting.items left.unread.items g mades got_long c n first

    number : n ≡ x.terms.base + stand.place
    number = first.number ∙ stand.number

    cell_is : cell_in x stand.place stand.call ≡ c * window + turn % window
    cell_is = stand.cell_is ∙ (λ t. c * sym s.window_is t + sym turn_is t % sym s.window_is t)

    pub in_words : (4 * (c * window + turn % window) + 5 < length words) × (c * window + turn % window < 4096)
    in_words =
        let b = s.at_end.bounded in let w = s.window_is in let wide = s.at_end.wide in
        let few : callers x.terms * x.terms.window ≤ 64 * x.terms.window = mul-le-mul_right x.terms.window b.some_caller in
        let small = b.window in
        let y : ℕ = callers x.terms * x.terms.window in
        let in_y : c * x.terms.window + turn % x.terms.window < y = in_rows (callers x.terms) c (turn % x.terms.window) x.terms.window first.inside (mod-lt turn b.some_cell) in
        let q : ℕ = c * window + turn % window in
        let q_in : q < y = subst (λ z. c * z + turn % z < y) (sym w) in_y in
        let wide' : length words ≡ 4 * y + 2 = wide in let few' : y ≤ 64 * x.terms.window = few in
        ((let h : 4 * q + 5 < length words = omega arith in h), let h : q < 4096 = omega arith in h)

    reply_at : (r : Reply) → get_elem? x.replies stand.place ≡ some r → slice_get left.slots.items (c * window + turn % window) ≡ Some (filled (x.terms.base + stand.place) r)
    reply_at r at = at_place left.slots.items (c * window + turn % window) (filled (x.terms.base + stand.place) r)
        (ap (get_elem? left.slots.items) (sym cell_is) ∙ g.replies stand.place stand.call r stand.from (stand.at, stand.left) at)

    pub has_reply : nat_lt n fw ≡ true → (n' : ℕ) × ((r : Reply) × (slice_get left.slots.items (c * window + turn % window) ≡ Some (filled n' r)))
    has_reply true_is =
        let lt = lt_of n fw true_is in let num = number in let f = s.number in
        let r = some_at x.replies stand.place (omega arith) in
        (x.terms.base + stand.place, (r.0, reply_at r.0 r.1))

    spelled : Begins words (words_at (c * window + turn % window)) (spell stand.call.call)
    spelled = subst (λ q. Begins words (words_at q) (spell stand.call.call)) cell_is (s.at_end.spelled stand.place stand.call (stand.at, stand.left))

    pub has_call : (call : Call) × IsCall call × Begins words (words_at (c * window + turn % window)) (spell call)
    has_call = (stand.call.call, s.at_end.legal stand.place stand.call stand.at, spelled)

    the_entry : (place : ℕ) → place ≡ slice_index firsts c + turn → entry c place stand.call.call ≡ stand.call
    the_entry place place_is =
        let p = (s.at_end.placed stand.place stand.call stand.at).1 in
        let same : place ≡ stand.call.place = place_is ∙ (λ t. slice_index (s.firsts_are t) (sym stand.who t) + (turn_is ∙ sym stand.turn) t) ∙ sym p in
        λ t. record { caller = sym stand.who t; place = same t; call = stand.call.call }

    -- one more call is put down
    pub put : (left' : Left) (place : ℕ) → place ≡ slice_index firsts c + turn → KeepsCounts left left'
        → (nat_lt n fw ≡ true → (n' : ℕ) (r : Reply) → slice_get left.slots.items (c * window + turn % window) ≡ Some (filled n' r) → PutsUnread left left' (c * window + turn % window) n' r)
        → (nat_lt n fw ≡ false → (call : Call) → IsCall call → Begins words (words_at (c * window + turn % window)) (spell call) → PutsWaiting left left' (entry c place call))
        → (k : ℕ) × Gathered x k (slice_set left'.got.items c (turn + 1)) left'.slots.items left'.waiting.items left'.unread.items
    put left' place place_is keeps unread waiting = (stand.place + 1, by_test (nat_lt n fw) refl)
      where
        got_is : slice_set left.got.items c (slice_index left.got.items c + 1) ≡ slice_set left'.got.items c (turn + 1)
        got_is = λ t. slice_set (sym keeps.got t) c (sym turn_is t + 1)

        q_is : c * x.terms.window + slice_index left.got.items c % x.terms.window ≡ c * window + turn % window
        q_is = λ t. c * sym s.window_is t + sym turn_is t % sym s.window_is t

        by_test : (b : Bool) → nat_lt n fw ≡ b → Gathered x (stand.place + 1) (slice_set left'.got.items c (turn + 1)) left'.slots.items left'.waiting.items left'.unread.items
        by_test true true_is =
            let lt = lt_of n fw true_is in let num = number in let f = s.number in
            let r = some_at x.replies stand.place (omega arith) in
            let p = unread true_is (x.terms.base + stand.place) r.0 (reply_at r.0 r.1) in
            let more = more_unread x words s.at_end m left.got.items left.made.items left.slots.items left.waiting.items left.unread.items g mades got_long c n first r.0 r.1 in
            moved (λ t. Gathered x (stand.place + 1) (got_is t) ((ap (λ q. slice_set left.slots.items q None) q_is ∙ sym p.slots) t) (sym p.waiting t) (((λ u. left.unread.items ++ (number u, r.0) ∷ []) ∙ sym p.unread) t)) more
        by_test false false_is =
            let le = le_of n fw false_is in let num = number in let f = s.number in
            let p = waiting false_is stand.call.call (s.at_end.legal stand.place stand.call stand.at) spelled in
            let more = more_waiting x words s.at_end m left.got.items left.made.items left.slots.items left.waiting.items left.unread.items g mades got_long c n first (entry c place stand.call.call) (omega arith) (the_entry place place_is) in
            moved (λ t. Gathered x (stand.place + 1) (got_is t) (sym p.slots t) (sym p.waiting t) (sym p.unread t)) more

    -- one of the lists is longer by one
    pub one_more : (left' : Left) (place : ℕ)
        → (nat_lt n fw ≡ true → (n' : ℕ) (r : Reply) → slice_get left.slots.items (c * window + turn % window) ≡ Some (filled n' r) → PutsUnread left left' (c * window + turn % window) n' r)
        → (nat_lt n fw ≡ false → (call : Call) → IsCall call → Begins words (words_at (c * window + turn % window)) (spell call) → PutsWaiting left left' (entry c place call))
        → length left'.waiting.items + length left'.unread.items ≡ length left.waiting.items + length left.unread.items + 1
    one_more left' place unread waiting = by_test (nat_lt n fw) refl
      where
        longer : {A : Type 0} (l m : List A) (a : A) → m ≡ l ++ a ∷ [] → length m ≡ length l + 1
        longer l m a e = ap length e ∙ length-append l (a ∷ [])

        by_test : (b : Bool) → nat_lt n fw ≡ b → length left'.waiting.items + length left'.unread.items ≡ length left.waiting.items + length left.unread.items + 1
        by_test true true_is =
            let r = has_reply true_is in
            let p = unread true_is r.0 r.1.0 r.1.1 in
            let w = ap length p.waiting in let u = longer left.unread.items left'.unread.items (r.0, r.1.0) p.unread in omega arith
        by_test false false_is =
            let p = waiting false_is stand.call.call (s.at_end.legal stand.place stand.call stand.at) spelled in
            let u = ap length p.unread in let w = longer left.waiting.items left'.waiting.items (entry c place stand.call.call) p.waiting in omega arith

    -- fewer calls are left
    pub fewer : (left' : Left) (place : ℕ) → KeepsCounts left left'
        → remaining (slice_set left'.got.items c (turn + 1)) left'.made.items + 1 ≡ remaining left.got.items left.made.items
    fewer left' place keeps =
        let gl = got_long in let ml = ap length made in let ml' = s.made_long in let inside = first.inside in
        (λ t. remaining (slice_set (keeps.got t) c (turn_is t + 1)) (keeps.made t) + 1) ∙ remaining_less left.got.items left.made.items c (omega arith) (omega arith) first.left

    pub some_left : 0 < remaining left.got.items left.made.items
    some_left =
        let gl = got_long in let ml = ap length made in let ml' = s.made_long in let inside = first.inside in
        let less = remaining_less left.got.items left.made.items c (omega arith) (omega arith) first.left in omega arith

-- At the start no more calls are left than there are cells.
pub few_left : (x : End) (words firsts : List ℕ) (window fw : ℕ) (left : Left) → IsStart x words firsts window fw left → remaining left.got.items left.made.items ≤ callers x.terms * x.terms.window
few_left x words firsts window fw left s =
    subst (λ n. remaining left.got.items left.made.items ≤ n * x.terms.window) s.got_long
    (remaining_most left.got.items left.made.items x.terms.window (λ c lt. let l = s.got_long in let g = s.got_are c (omega arith) in let a = s.made_are c (omega arith) in let room = s.at_end.room c (omega arith) in omega arith))
