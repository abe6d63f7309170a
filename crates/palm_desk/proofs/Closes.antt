-- What is left of a closed desk is what no seat has collected.
use Rattle.std.proofs.Common.{◌≡◌, ℕ, zero, suc, ◌+◌, ◌<◌, ◌≤◌, ◌==◌, Bool, true, false, not, ◌||◌, cond, List, [], ◌∷◌, ◌++◌, length, get_or, take, drop, filter, sym, refl, ap, ◌∙◌, subst, arith, eq-eqb, ne_eqb}
use Rattle.std.specs.Prelude.{Any}
use Rattle.std.specs.List.{enumerate_from, list_any}
use mathlib.Core.Option.{some, some-injective, some-ne-none}
use mathlib.Core.Logic.{dite}
use native.Mathlib.Decide.{dec_le}
use lib.ListN.{get_elem?}
use Rattle.std.proofs.lemmas.List.{take_all, take-take, take-append-drop}
use Rattle.palm_base.specs.Arrivals.{count_of, made_by, replies_for}
use Rattle.palm_base.specs.Desk.{callers}
use Rattle.palm_base.specs.declared.call.Call.{Call}
use Rattle.palm_base.specs.declared.call.Entry.{Entry}
use Rattle.palm_base.specs.declared.call.Reply.{Reply}
use Rattle.palm_base.proofs.Arrivals.{at_below, some_at, call_at, at_call}
use Rattle.palm_desk.specs.Closing.{has_collected, is_unread}
use Rattle.palm_desk.specs.Leftovers.{End, turn_of, is_left, unread_to, waiting_to}
use Rattle.palm_desk.specs.Seats.{CallerState}
use Rattle.palm_desk.proofs.Collecting.{answer_at}
use Rattle.palm_desk.proofs.Gathering.{left_is, le_true, le_false}

-- An item of a list, in two ways of saying where.
pub at_of : {A : Type 0} (l : List A) (k : ℕ) (a : A) → k < length l → get_or l k a ≡ a → get_elem? l k ≡ some a
at_of [] k a lt e = absurd (omega arith)
at_of (x ∷ l) zero a lt e = ap (λ y. some y) e
at_of (x ∷ l) (suc k) a lt e = at_of l k a (omega arith) e

pub of_at : {A : Type 0} (l : List A) (k : ℕ) (a : A) → get_elem? l k ≡ some a → get_or l k a ≡ a
of_at [] k a at = absurd (some-ne-none a (sym at))
of_at (x ∷ l) zero a at = some-injective x a at
of_at (x ∷ l) (suc k) a at = of_at l k a at

-- Whatever stands before it, a test that passes makes the whole pass.
or_true : (b : Bool) → (b || true) ≡ true
or_true true = refl
or_true false = refl

-- Some item passes a test, and none does.
pub any_at : {A : Type 0} (f : A → Bool) (l : List A) (i : ℕ) (a : A) → get_elem? l i ≡ some a → f a ≡ true → list_any f l ≡ true
any_at f [] i a at is = absurd (some-ne-none a (sym at))
any_at f (x ∷ l) zero a at is = ap (λ b. b || list_any f l) (ap f (some-injective x a at) ∙ is)
any_at f (x ∷ l) (suc i) a at is = ap (λ b. f x || b) (any_at f l i a at is) ∙ or_true (f x)

pub none_at : {A : Type 0} (f : A → Bool) (l : List A) → ((i : ℕ) (a : A) → get_elem? l i ≡ some a → f a ≡ false) → list_any f l ≡ false
none_at f [] all = refl
none_at f (x ∷ l) all = ap (λ b. b || list_any f l) (all 0 x refl) ∙ none_at f l (λ i a at. all (suc i) a at)

-- The items of the front of a list.
pub in_front : {A : Type 0} (l : List A) (n i : ℕ) → i < n → get_elem? (take n l) i ≡ get_elem? l i
in_front l zero i lt = absurd (omega arith)
in_front [] (suc n) i lt = refl
in_front (x ∷ l) (suc n) zero lt = refl
in_front (x ∷ l) (suc n) (suc i) lt = in_front l n i (omega arith)

-- A reply to one of a caller's calls has that call's number.
pub call_of_reply : (c n : ℕ) (a : List Entry) (rs : List Reply) (j : ℕ) (y : ℕ × Reply) → get_elem? (replies_for c n a rs) j ≡ some y → (call : Call) × (get_elem? (made_by c n a) j ≡ some (y.0, call))
call_of_reply c n [] rs j y at = absurd (some-ne-none y (sym at))
call_of_reply c n (e ∷ a) [] j y at = absurd (some-ne-none y (sym at))
call_of_reply c n (e ∷ a) (r ∷ rs) j y at = by_test c n e a r rs y (λ i. call_of_reply c (n + 1) a rs i y) (e.caller == c) j at
  where
    by_test : (c n : ℕ) (e : Entry) (a : List Entry) (r : Reply) (rs : List Reply) (y : ℕ × Reply) → ((i : ℕ) → get_elem? (replies_for c (n + 1) a rs) i ≡ some y → (call : Call) × (get_elem? (made_by c (n + 1) a) i ≡ some (y.0, call)))
        → (b : Bool) (j : ℕ) → get_elem? (cond b ((n, r) ∷ replies_for c (n + 1) a rs) (replies_for c (n + 1) a rs)) j ≡ some y → (call : Call) × (get_elem? (cond b ((n, e.call) ∷ made_by c (n + 1) a) (made_by c (n + 1) a)) j ≡ some (y.0, call))
    by_test c n e a r rs y rest true zero at = (e.call, ap (λ (z : ℕ × Reply). some (z.0, e.call)) (some-injective (n, r) y at))
    by_test c n e a r rs y rest true (suc j) at = rest j at
    by_test c n e a r rs y rest false j at = rest j at

-- Two tests that agree on the numbers of a list's items leave the same of them.
pub filter_same : {A : Type 0} (f g : ℕ × A → Bool) (n : ℕ) (l : List A) → ((p : ℕ) (a : A) → get_elem? l p ≡ some a → f (n + p, a) ≡ g (n + p, a)) → filter f (enumerate_from n l) ≡ filter g (enumerate_from n l)
filter_same f g n [] all = refl
filter_same {A} f g n (x ∷ l) all =
    let here : f (n, x) ≡ g (n, x) = subst (λ k. f (k, x) ≡ g (k, x)) (let e : n + 0 ≡ n = omega arith in e) (all 0 x refl) in
    let rest = filter_same f g (n + 1) l (λ p a at. subst (λ k. f (k, a) ≡ g (k, a)) (let e : n + suc p ≡ n + 1 + p = omega arith in e) (all (suc p) a at)) in
    λ t. cond {A = List (ℕ × A)} (here t) ((n, x) ∷ rest t) (rest t)

-- What the seats know at the end: each caller has one, and each has collected what its caller has got.
pub record AllKnow (x : End) (seats : List CallerState) : Type 0 where
  pub each : (c : ℕ) → c < callers x.terms → Any (λ s. s.caller ≡ c) seats
  pub collected : (i : ℕ) (s : CallerState) → get_elem? seats i ≡ some s
      → s.collected ≡ take (length s.collected) (replies_for s.caller x.terms.base x.log x.replies)
  pub got : (i : ℕ) (s : CallerState) → get_elem? seats i ≡ some s → length s.collected ≡ x.got s.caller

module _ (x : End) (seats : List CallerState) (all : AllKnow x seats) (p : ℕ) (e : Entry) (r : Reply) (at : get_elem? x.log p ≡ some e) (at' : get_elem? x.replies p ≡ some r) where
  -- a reply that its caller has got is in its seat's hands
  got_has : e.caller < callers x.terms → turn_of x p e < x.got e.caller → list_any (has_collected (x.terms.base + p)) seats ≡ true
  got_has known lt =
      let n : ℕ = x.terms.base + p in let c : ℕ = e.caller in let j : ℕ = turn_of x p e in
      let y = all.each c known in let s : CallerState = y.1 in
      let at_s = at_of seats y.0 s y.2 y.3 in
      let a = all.got y.0 s at_s in let b = ap x.got y.4 in
      let reply = answer_at c x.terms.base x.log x.replies j p e.call r (at_call x.terms.base x.log p e at) at' in
      let mine : get_elem? (replies_for s.caller x.terms.base x.log x.replies) j ≡ some (n, r) = ap (λ d. get_elem? (replies_for d x.terms.base x.log x.replies) j) y.4 ∙ reply in
      let have : get_elem? s.collected j ≡ some (n, r) = ap (λ l. get_elem? l j) (all.collected y.0 s at_s) ∙ in_front (replies_for s.caller x.terms.base x.log x.replies) (length s.collected) j (omega arith) ∙ mine in
      any_at (has_collected n) seats y.0 s at_s (any_at (λ answered. answered.0 == n) s.collected j (n, r) have (eq-eqb n n refl))

  -- one that its caller hasn't got is in no seat's
  left_has_none : x.got e.caller ≤ turn_of x p e → list_any (has_collected (x.terms.base + p)) seats ≡ false
  left_has_none le =
      let n : ℕ = x.terms.base + p in let c : ℕ = e.caller in
      none_at (has_collected n) seats (λ i s at_s. none_at (λ answered. answered.0 == n) s.collected (λ j y at_y. ne_eqb y.0 n (λ same.
      let lt = at_below s.collected j y at_y in
      let there : get_elem? (replies_for s.caller x.terms.base x.log x.replies) j ≡ some y = sym (in_front (replies_for s.caller x.terms.base x.log x.replies) (length s.collected) j lt) ∙ sym (ap (λ l. get_elem? l j) (all.collected i s at_s)) ∙ at_y in
      let call = call_of_reply s.caller x.terms.base x.log x.replies j y there in
      let f = call_at s.caller x.terms.base x.log j y.0 call.0 call.1 in
      let q : ℕ = f.0 in let num : y.0 ≡ x.terms.base + q = f.2 in
      let q_is : q ≡ p = omega arith in
      let e_is : f.1 ≡ e = some-injective f.1 e (sym f.3 ∙ ap (get_elem? x.log) q_is ∙ at) in
      let who : c ≡ s.caller = ap (λ (z : Entry). z.caller) (sym e_is) ∙ f.4 in
      let turn : count_of c (take p x.log) ≡ j = (λ t. count_of (who t) (take (sym q_is t) x.log)) ∙ f.6 in
      let a = all.got i s at_s in let b = ap x.got who in omega arith)))

  -- so whether a reply is left is whether no seat has it
  left_unread : e.caller < callers x.terms → is_left x (x.terms.base + p) ≡ is_unread seats (x.terms.base + p)
  left_unread known = dite (dec_le (suc (turn_of x p e)) (x.got e.caller))
      (λ lt. left_is x p e at ∙ le_false (x.got e.caller) (turn_of x p e) lt ∙ sym (ap not (got_has known lt)))
      (λ no. left_is x p e at ∙ le_true (x.got e.caller) (turn_of x p e) (omega arith) ∙ sym (ap not (left_has_none (omega arith))))

-- The replies that are left are those that no seat has collected.
pub unread_is : (x : End) (seats : List CallerState) → AllKnow x seats → length x.replies ≤ length x.log → ((p : ℕ) (e : Entry) → get_elem? x.log p ≡ some e → e.caller < callers x.terms)
    → unread_to x (length x.log) ≡ filter (λ answered. is_unread seats answered.0) (enumerate_from x.terms.base x.replies)
unread_is x seats all le known =
    ap (λ l. filter (λ answered. is_left x answered.0) (enumerate_from x.terms.base l)) (take_all (length x.log) x.replies le)
    ∙ filter_same (λ answered. is_left x answered.0) (λ answered. is_unread seats answered.0) x.terms.base x.replies (λ p r at'.
    let b = at_below x.replies p r at' in
    let e = some_at x.log p (omega arith) in
    left_unread x seats all p e.0 r e.1 at' (known p e.0 e.1))

-- The history is the calls that have a reply, and behind them those that wait for one.
pub history_is : (x : End) (taken : List Entry) → taken ≡ take (length taken) x.log → length x.replies ≤ length taken
    → take (length x.replies) taken ++ waiting_to x (length x.log) ≡ x.log
history_is x taken taken_is le =
    let n : ℕ = length x.replies in
    let front : take n taken ≡ take n x.log = ap (take n) taken_is ∙ take-take n (length taken) x.log le in
    let back : waiting_to x (length x.log) ≡ drop n x.log = ap (drop n) (take_all (length x.log) x.log (let h : length x.log ≤ length x.log = omega arith in h)) in
    (λ t. front t ++ back t) ∙ take-append-drop n x.log
