-- Each step of a caller keeps the rule.
use Rattle.palm_base.specs.Desk.{next as came}
use Rattle.std.proofs.Common.{◌≡◌, ℕ, suc, ◌+◌, ◌*◌, ◌%◌, ◌^◌, ◌<◌, ◌≤◌, ◌≢◌, List, [], ◌∷◌, ◌++◌, length, get_or, set, sym, refl, ap, ◌∙◌, subst, arith, mod-lt, mul-le-mul_right, length-set, length-append, get_or-set_other, get_or-set_same, ⊎_elim, None}
use mathlib.Core.Option.{none, some, some-injective}
use mathlib.Core.Logic.{dite}
use native.Mathlib.Decide.{ℕ_discrete, dec_le}
use lib.ListN.{get_elem?}
use lib.Seq.{length-take-le}
use Rattle.atomic_table.specs.Table.{step, keeps, gives, Allows, put_back, rest}
use Rattle.atomic_table.proofs.Lists.{at_last, set_here, set_else}
use Rattle.palm_base.specs.declared.call.Call.{Call}
use Rattle.palm_base.specs.declared.call.Entry.{Entry}
use Rattle.palm_base.specs.declared.desk.Terms.{Terms}
use Rattle.palm_base.specs.declared.desk.Event.TheVariants.{Arrive, Post}
use Rattle.palm_base.specs.Arrivals.{count_of, made_by, replies_for}
use Rattle.palm_base.specs.Desk.{Machine, Lawful, put, next_entry, arrive, post}
use Rattle.palm_desk.specs.declared.views.CallerView.{CallerView}
use Rattle.palm_desk.specs.declared.views.Role.TheVariants.{Calling}
use Rattle.palm_desk.specs.declared.views.View.{View}
use Rattle.palm_desk.specs.Views.{calling, drafted, arrived, posted_one, called}
use Rattle.palm_desk.specs.Rule.{Desk, Homes, Holder, cell, state_at, words_at, Begins, Empty, CellOk, CallerOk, CallerAt, InWindow, CellAt, AreCalls, IsRuled}
use Rattle.palm_desk.specs.Plays.{Drafts, Arrives, Posts}
use Rattle.palm_base.proofs.Arrivals.{at_below, length-made_by, made_by-other, made_by-own, count_of-take, count_of-take_all, length-replies_for, early, at_most}
use Rattle.palm_base.proofs.DeskLaws.{at_put, at_longer_log}
use Rattle.palm_desk.proofs.Cells.{cell_in, same_row, begins_else, begins_snoc, cell_else, cell_arrives, cell_posts, at_front, begins_none, word_zero, state_word, word_word, state_state, not_first, not_first_state, word_within, state_within}
use Rattle.palm_desk.proofs.SeatViews.{put_here, put_else, is_calling}
use Rattle.palm_desk.proofs.Stays.{lawful_of, each_but, caller_else, caller_arrives, driver_arrives, driver_posts, by_caller}
use Rattle.palm_base.specs.Desk.{callers}
use Rattle.palm_desk.specs.Words.{spell, IsCall}
use Rattle.palm_desk.proofs.CallWords.{one_call}

-- how many replies_for a caller has
pub got_length : (k : Terms) (m : Machine) (c : ℕ) → Lawful k m → c < callers k → length (m.given c) ≡ m.got c
got_length k m c l lt = let s = l.each c lt in let d = l.done_le in let t = l.taken_le in let r = l.replies_le in
    let all = length-replies_for c k.base m.log m.replies (omega arith) in
    let grows = count_of-take c m.log m.done (length m.replies) d in
    let finished = s.finished in
    ap length s.given ∙ length-take-le (m.got c) (replies_for c k.base m.log m.replies) (omega arith)

length-append' : (xs : List ℕ) (x : ℕ) → length (xs ++ x ∷ []) ≡ length xs + 1
length-append' xs x = length-append xs (x ∷ [])

-- a caller whose view keeps its back keeps it among all
pub backs : (k : Terms) (s : Desk) (r : IsRuled k s) (id : ℕ) (me : Holder) → get_elem? s.views id ≡ some me.0 → me.0.role ≡ Calling → (w : CallerView) → w.back ≡ me.0.calls.back → (c : ℕ) → (put r.who me.0.calls.caller w c).back ≡ (r.who c).back
backs k s r id me there is w same c = let o = is_calling k r.who r.seat r.d r.at s.views id me.0 r.seated there is in
    at_put r.who me.0.calls.caller w (λ i u. u.back ≡ (r.who i).back) c (λ e. same ∙ ap (λ (u : CallerView). u.back) o.1 ∙ ap (λ i. (r.who i).back) (sym e)) (λ _. refl)

-- what a caller's view says of the machine
pub record Own (k : Terms) (m : Machine) (ws : List ℕ) (v : View) : Type 0 where
  pub terms : v.terms ≡ k
  pub lt : v.calls.caller < callers k
  pub ok : CallerAt k m ws v.calls.caller v.calls
  pub made : length v.calls.made ≡ count_of v.calls.caller m.log
  pub got : length v.calls.collected ≡ m.got v.calls.caller

pub own : (k : Terms) (s : Desk) (r : IsRuled k s) (id : ℕ) (v : View) → get_elem? s.views id ≡ some v → v.role ≡ Calling → Own k r.m s.words v
own k s r id v there is =
    let o = is_calling k r.who r.seat r.d r.at s.views id v r.seated there is in
    let seats = r.driver.seats in
    let below = o.3 in
    let lt : v.calls.caller < callers k = omega arith in
    let ok : CallerAt k r.m s.words v.calls.caller v.calls = subst (CallerAt k r.m s.words v.calls.caller) (sym o.1) (r.each_caller v.calls.caller lt) in
    record {
      terms = o.0;
      lt = lt;
      ok = ok;
      made = ap length ok.made ∙ length-made_by v.calls.caller k.base r.m.log;
      got = ap length ok.collected ∙ got_length k r.m v.calls.caller (lawful_of k s r) lt;
    }

pub drafts : (k : Terms) (slots id : ℕ) (me : Holder) (i x : ℕ) → me.0.role ≡ Calling → length me.0.calls.draft < 3 → me.0.calls.up ≡ length me.0.calls.made → length me.0.calls.made < length me.0.calls.collected + me.0.terms.window
    → i ≡ words_at (cell me.0.terms me.0.calls.caller me.0.calls.up) + length me.0.calls.draft → Allows (IsRuled k) slots id me i (λ _. x) (λ _. Drafts (step slots i x 0 none) me x)
drafts k slots id me i x is short all room i_is s r _ there small =
    let v = me.0.calls in let c : ℕ = v.caller in let m = r.m in let o = own k s r id me.0 there is in let ok = o.ok in
    let l : ℕ = length v.draft in
    let q : ℕ = cell k c (m.up c) in
    let pos = r.bounded.some_cell in
    let at : i ≡ words_at q + l = i_is ∙ (λ t. words_at (cell (o.terms t) c (ok.up_is t)) + l) in
    let made = o.made in let got = o.got in let up = ok.up_is in
    let all' : m.up c ≡ count_of c m.log = sym up ∙ all ∙ made in
    let window : me.0.terms.window ≡ k.window = ap (λ (t : Terms). t.window) o.terms in
    let room' : count_of c m.log < m.got c + k.window = omega arith in
    let served = (lawful_of k s r).each c o.lt in let finished = served.finished in let part = count_of-take_all c m.log m.done in
    let near : InWindow k m c (m.up c) = (o.lt, omega arith, omega arith) in
    let inside : q < callers k * k.window = cell_in k pos c (m.up c) o.lt in
    let w : CallerView = drafted x v in
    let first = not_first q l in (
      calling w me.0,
      keeps,
      tt,
      by_caller k s r id me there is i x s.homes m w refl refl
          (get_or-set_other s.words i 0 x 0 (λ e. first.0 (e ∙ at)) ∙ r.tail) (get_or-set_other s.words i 1 x 0 (λ e. first.1 (e ∙ at)) ∙ r.done) r.reached r.legal r.driver
          record {
            caller = refl;
            made = ok.made;
            up_is = ok.up_is;
            collected = ok.collected;
            low = ok.low;
            high = ok.high;
            kept = ok.kept;
            owed = ok.owed;
            short = omega (arith, length-append' v.draft x);
            may_draft = λ _. (all', room');
            begun = subst (λ a. Begins (set s.words a x) (words_at q) (v.draft ++ x ∷ [])) (sym at) (begins_snoc s.words (words_at q) v.draft x (word_within q (callers k * k.window) l (length s.words) inside short r.wide) ok.begun);
            pending = λ n call there'. let below = at_below (made_by c k.base m.log) (m.up c) (k.base + n, call) there' in let long = length-made_by c k.base m.log in absurd (omega arith);
          }
          (λ c' lt ne. caller_else k m.log (m.up c') (m.got c') (m.given c') m.done s.words c' (r.who c') i x
          (λ n n3 e. word_word (cell k c' (m.up c')) q l n short n3 (λ same. ne (same_row c' c (m.up c' % k.window) (m.up c % k.window) k.window (mod-lt (m.up c') pos) (mod-lt (m.up c) pos) same)) (e ∙ at))
          (r.each_caller c' lt))
          (λ c' j near'. each_but k pos m c (m.up c) (λ a b. CellAt k m (put r.who c w a).back (set s.words i x) s.homes a b) near
          (let was = r.each_cell c (m.up c) near in
          record {
            idle = λ le. let p = was.idle le in (get_or-set_other s.words i (state_at q) x 0 (λ e. state_word q q l short (sym (e ∙ at))) ∙ p.0, (λ b. p.1 (subst (λ n. m.up c < n) (backs k s r id me there is w refl c) b)), λ b. p.2 (subst (λ n. n ≤ m.up c) (backs k s r id me there is w refl c) b));
            posted = λ n call lt _. absurd (omega arith);
          })
          (λ a b near'' apart. subst (λ n. CellAt k m n (set s.words i x) s.homes a b) (sym (backs k s r id me there is w refl a))
          (cell_else k.base m.taken m.replies (made_by a k.base m.log) (m.up a) (r.who a).back s.words s.homes (cell k a b) b i x s.homes (λ e. state_word (cell k a b) q l short (sym at ∙ e))
          (λ n n3 e. word_word (cell k a b) q l n short n3 apart (e ∙ at)) refl (r.each_cell a b near'')))
          c' j near'),
      (refl, refl),
    )

abbrev nth : List ℕ → ℕ → ℕ
nth xs i = get_or xs i 0

-- One more call that a program can make.
legal_more : (log : List Entry) (e : Entry) → IsCall e.call → AreCalls log → AreCalls (log ++ e ∷ [])
legal_more log e legal all p x at =
    ⊎_elim (λ (h : (p < length log) × (get_elem? log p ≡ some x)). all p x h.1) (λ (h : (p ≡ length log) × (e ≡ x)). subst (λ (y : Entry). IsCall y.call) h.1 legal) (at_longer_log log e x p at)

-- all numbers are small
pub numbers : (k : Terms) (s : Desk) (r : IsRuled k s) → k.base + length r.m.log < 2 ^ 62
numbers k s r = let b = r.bounded in
    let most = at_most (callers k) k.quota r.m.log (λ p e at. ((lawful_of k s r).placed p e at).0) (λ c lt. ((lawful_of k s r).each c lt).quota) in
    let n : ℕ = callers k in let some_callers : n ≤ 64 = b.some_caller in let quota = b.quota in let base = b.base in
    let p : n * k.quota ≤ 64 * k.quota = mul-le-mul_right k.quota some_callers in
    omega arith

pub arrives_at : (k : Terms) (slots id : ℕ) (me : Holder) (call : Call) → IsCall call → me.0.role ≡ Calling → me.0.calls.draft ≡ spell call → me.0.calls.up ≡ length me.0.calls.made → length me.0.calls.made < length me.0.calls.collected + me.0.terms.window
    → length me.0.calls.made < me.0.terms.quota → Allows (IsRuled k) slots id me 0 (λ n. (n + 1) % 2 ^ 64) (Arrives (step slots 0 1 0 none) me)
arrives_at k slots id me call legal is spelt all room left s r _ there small =
    let v = me.0.calls in let c : ℕ = v.caller in let m = r.m in let o = own k s r id me.0 there is in let ok = o.ok in
    let x : ℕ = get_or s.words 0 0 in
    let tail : x ≡ k.base + length m.log = r.tail in
    let made = o.made in let got = o.got in let up = ok.up_is in
    let all' : m.up c ≡ count_of c m.log = sym up ∙ all ∙ made in
    let window : me.0.terms.window ≡ k.window = ap (λ (t : Terms). t.window) o.terms in
    let quota : me.0.terms.quota ≡ k.quota = ap (λ (t : Terms). t.quota) o.terms in
    let room' : count_of c m.log < m.got c + k.window = omega arith in
    let left' : count_of c m.log < k.quota = omega arith in
    let served = (lawful_of k s r).each c o.lt in let finished = served.finished in let part = count_of-take_all c m.log m.done in
    let m' = arrive k c call m in
    let e = next_entry k m c call in
    let few = numbers k s r in
    let x' : ℕ = (x + 1) % 2 ^ 64 in
    let next : x' ≡ k.base + suc (length m.log) = omega arith in
    let longer = length-append m.log (e ∷ []) in
    let law = came m (Arrive c call) (o.lt, all', room', left') r.reached in
    let w : CallerView = arrived x call v in
    let made_now : made_by c k.base m'.log ≡ made_by c k.base m.log ++ (k.base + length m.log, call) ∷ [] = made_by-own c k.base m.log e refl in
    let long = length-made_by c k.base m.log in
    let wide = r.wide in
    let d1 = (lawful_of k s r).done_le in let d2 = (lawful_of k s r).replies_le in let d3 = (lawful_of k s r).taken_le in
    let high = ok.high in (
      calling w me.0,
      keeps,
      tt,
      by_caller k s r id me there is 0 x' s.homes m' w refl refl
          (get_or-set_same s.words 0 x' 0 (omega arith) ∙ next ∙ ap (λ n. k.base + n) (let g : suc (length m.log) ≡ length m'.log = omega arith in g))
          (get_or-set_other s.words 0 1 x' 0 (λ e. omega arith) ∙ r.done) law (legal_more m.log e legal r.legal) (driver_arrives k m r.d e (lawful_of k s r).taken_le r.driver)
          record {
            caller = refl;
            made = (λ i. ok.made i ++ (tail i, call) ∷ []) ∙ sym made_now;
            up_is = ok.up_is;
            collected = ok.collected;
            low = ok.low;
            high = ok.high;
            kept = ok.kept;
            owed = ok.owed;
            short = omega arith;
            may_draft = λ lt. absurd (omega arith);
            begun = begins_none (set s.words 0 x') (words_at (cell k c (m.up c))) [] refl;
            pending = λ n call' at.
                let both = some-injective (k.base + length m.log, call) (k.base + n, call') (sym (at_last (made_by c k.base m.log) (k.base + length m.log, call) (m.up c) (long ∙ sym all')) ∙ ap (λ l. get_elem? l (m.up c)) (sym made_now) ∙ at) in
                begins_else s.words (words_at (cell k c (m.up c))) (spell call') 0 x' (λ n lt. word_zero (cell k c (m.up c)) n)
                (subst (Begins s.words (words_at (cell k c (m.up c)))) (spelt ∙ ap (λ (y : ℕ × Call). spell y.1) both) ok.begun);
          }
          (λ c' lt ne. caller_else k m'.log (m.up c') (m.got c') (m.given c') m.done s.words c' (r.who c') 0 x' (λ n lt. word_zero (cell k c' (m.up c')) n)
          (caller_arrives k m.log (m.up c') (m.got c') (m.given c') m.done s.words c' (r.who c') m'.log (made_by-other c' k.base m.log e (λ h. ne (sym h))) (r.each_caller c' lt)))
          (λ a b near. subst (λ n. CellAt k m' n (set s.words 0 x') s.homes a b) (sym (backs k s r id me there is w refl a))
          (cell_else k.base m.taken m.replies (made_by a k.base m'.log) (m.up a) (r.who a).back s.words s.homes (cell k a b) b 0 x' s.homes (λ e. omega arith) (λ n lt. word_zero (cell k a b) n) refl
          (cell_arrives k.base m.taken m.replies (made_by a k.base m.log) (m.up a) (r.who a).back s.words s.homes (cell k a b) b (made_by a k.base m'.log)
          (λ n call' lt at. dite (ℕ_discrete c a)
          (λ h. at_front (made_by a k.base m.log) ((k.base + length m.log, call) ∷ []) b (n, call') (let lo = ((lawful_of k s r).each a near.0).low in let ln = length-made_by a k.base m.log in omega arith) (ap (λ l. get_elem? l b) (sym (made_by-own a k.base m.log e h)) ∙ at))
          (λ h. ap (λ l. get_elem? l b) (sym (made_by-other a k.base m.log e h)) ∙ at))
          (r.each_cell a b near)))),
      (let g : x < 2 ^ 62 = omega arith in g, let g : v.front ≤ x = omega arith in g, (λ call' legal' spelt'. ap (λ y. calling (arrived x y v) me.0) (one_call call call' legal legal' (sym spelt ∙ spelt'))), refl),
    )

-- Called is stored in the cell of the next call, whose slot is then at home
posted_on : (k : Terms) (s : Desk) (r : IsRuled k s) (id : ℕ) (me : Holder) → get_elem? s.views id ≡ some me.0 → me.0.role ≡ Calling → (o : Own k r.m s.words me.0) → (i x n : ℕ) (call : Call) (homes' : Homes)
    → r.m.up me.0.calls.caller + 1 ≡ count_of me.0.calls.caller r.m.log → get_elem? (made_by me.0.calls.caller k.base r.m.log) (r.m.up me.0.calls.caller) ≡ some (n, call) → x ≡ called n
    → i ≡ state_at (cell k me.0.calls.caller (r.m.up me.0.calls.caller)) → length homes' ≡ length s.homes → Empty homes' (cell k me.0.calls.caller (r.m.up me.0.calls.caller))
    → ((q : ℕ) → q ≢ cell k me.0.calls.caller (r.m.up me.0.calls.caller) → get_elem? homes' q ≡ get_elem? s.homes q)
    → IsRuled k record { words = set s.words i x; homes = homes'; views = set s.views id (calling (posted_one me.0.calls) me.0) }
posted_on k s r id me there is o i x n call homes' last this_call x_is i_is long home others =
    let v = me.0.calls in let c : ℕ = v.caller in let m = r.m in let ok = o.ok in
    let m' = post k c m in
    let q : ℕ = cell k c (m.up c) in
    let pos = r.bounded.some_cell in
    let served = (lawful_of k s r).each c o.lt in let finished = served.finished in let part = count_of-take_all c m.log m.done in let roomy = served.room in let posted = served.posted in
    let grows = count_of-take c m.log m.done m.taken (let a = (lawful_of k s r).done_le in let b = (lawful_of k s r).replies_le in omega arith) in
    let near : InWindow k m c (m.up c) = (o.lt, omega arith, omega arith) in
    let inside : q < callers k * k.window = cell_in k pos c (m.up c) o.lt in
    let w : CallerView = posted_one v in
    let first = not_first_state q in
    let law = came m (Post c) (o.lt, let g : m.up c < count_of c m.log = omega arith in g) r.reached in
    let long_mine = length-made_by c k.base m.log in
    let same = put_here m.up c (m.up c + 1) in
    let words' : List ℕ = set s.words i x in
    let now : get_or words' (state_at q) 0 ≡ called n = ap (λ a. get_or (set s.words a x) (state_at q) 0) i_is ∙ get_or-set_same s.words (state_at q) x 0 (state_within q (callers k * k.window) (length s.words) inside r.wide) ∙ x_is in
    let word_else : (q' l : ℕ) → l < 3 → words_at q' + l ≢ i = λ q' l lt e. state_word q q' l lt (e ∙ i_is) in
    by_caller k s r id me there is i x homes' m' w refl long
    (get_or-set_other s.words i 0 x 0 (λ e. first.0 (e ∙ i_is)) ∙ r.tail) (get_or-set_other s.words i 1 x 0 (λ e. first.1 (e ∙ i_is)) ∙ r.done) law r.legal (driver_posts k m r.d c r.driver)
    (subst (λ u. CallerOk k m.log u (m.got c) (m.given c) m.done words' c w) (sym same)
    record {
      caller = refl;
      made = ok.made;
      up_is = ap (λ u. u + 1) ok.up_is;
      collected = ok.collected;
      low = ok.low;
      high = ok.high;
      kept = ok.kept;
      owed = ok.owed;
      short = ok.short;
      may_draft = λ some_draft. absurd (let e = (ok.may_draft some_draft).0 in omega arith);
      begun = λ a y at. absurd (let lt = at_below v.draft a y at in let e = (ok.may_draft (omega arith)).0 in omega arith);
      pending = λ a call' at. absurd (let lt = at_below (made_by c k.base m.log) (m.up c + 1) (k.base + a, call') at in omega arith);
    })
    (λ c' lt ne. subst (λ u. CallerOk k m.log u (m.got c') (m.given c') m.done words' c' (r.who c')) (sym (put_else m.up c (m.up c + 1) c' ne))
    (caller_else k m.log (m.up c') (m.got c') (m.given c') m.done s.words c' (r.who c') i x (λ l lt'. word_else (cell k c' (m.up c')) l lt') (r.each_caller c' lt)))
    (λ c' j near'. subst (λ b. CellAt k m' b words' homes' c' j) (sym (backs k s r id me there is w refl c'))
    (each_but k pos m c (m.up c) (λ a b. CellAt k m' (r.who a).back words' homes' a b) near
    (subst (λ u. CellOk k.base m.taken m.replies (made_by c k.base m.log) u (r.who c).back words' homes' q (m.up c)) (sym same)
    record {
      idle = λ le. absurd (omega arith);
      posted = λ a call' lt at.
          let both = some-injective (n, call) (k.base + a, call') (sym this_call ∙ at) in
          let num : n ≡ k.base + a = ap (λ (y : ℕ × Call). y.0) both in
          let not_taken : a < m.taken → ⊥ = λ h. (let e = early c k.base m.log (m.up c) (k.base + a) call' m.taken at (omega arith) in omega arith) in
          let d2 = (lawful_of k s r).replies_le in
          record {
            spelled = begins_else s.words (words_at q) (spell call') i x (λ l lt'. word_else q l lt') (ok.pending a call' at);
            waits = λ le. (now ∙ ap called num, home);
            held = λ ge lt'. absurd (not_taken lt');
            answered = λ y at'. absurd (let lt' = at_below m.replies a y at' in not_taken (omega arith));
          };
    })
    (λ a b near'' apart.
    let moved = cell_else k.base m.taken m.replies (made_by a k.base m.log) (m.up a) (r.who a).back s.words s.homes (cell k a b) b i x homes' (λ e. state_state (cell k a b) q apart (sym (sym i_is ∙ e)))
    (λ l lt'. word_else (cell k a b) l lt') (others (cell k a b) apart) (r.each_cell a b near'') in
    dite (ℕ_discrete a c)
    (λ e. subst (λ u. CellOk k.base m.taken m.replies (made_by a k.base m.log) u (r.who a).back words' homes' (cell k a b) b) (sym (ap m'.up e ∙ same ∙ ap (λ j'. m.up j' + 1) (sym e)))
    (cell_posts k.base m.taken m.replies (made_by a k.base m.log) (m.up a) (r.who a).back words' homes' (cell k a b) b (λ h. apart (ap (cell k a) (h ∙ ap m.up e) ∙ ap (λ a'. cell k a' (m.up c)) e)) moved))
    (λ ne. subst (λ u. CellOk k.base m.taken m.replies (made_by a k.base m.log) u (r.who a).back words' homes' (cell k a b) b) (sym (put_else m.up c (m.up c + 1) a ne)) moved))
    c' j near'))

pub posts_at : (k : Terms) (slots id : ℕ) (me : Holder) (i x n : ℕ) (call : Call) → me.0.role ≡ Calling → me.0.calls.up + 1 ≡ length me.0.calls.made → get_elem? me.0.calls.made me.0.calls.up ≡ some (n, call) → x ≡ called n
    → i ≡ state_at (cell me.0.terms me.0.calls.caller me.0.calls.up) → (me.0.calls.back ≤ me.0.calls.up → me.1 ≡ (cell me.0.terms me.0.calls.caller me.0.calls.up, None) ∷ rest me.1)
    → Allows (IsRuled k) slots id me i (λ _. x) (λ _. Posts (step slots i x 0 none) me x)
posts_at k slots id me i x n call is last this_call x_is i_is carried s r _ there small =
    let v = me.0.calls in let c : ℕ = v.caller in let m = r.m in let o = own k s r id me.0 there is in let ok = o.ok in
    let pos = r.bounded.some_cell in
    let q : ℕ = cell k c (m.up c) in
    let made = o.made in let up = ok.up_is in
    let last' : m.up c + 1 ≡ count_of c m.log = omega arith in
    let call' : get_elem? (made_by c k.base m.log) (m.up c) ≡ some (n, call) = (λ t. get_elem? (sym ok.made t) (sym up t)) ∙ this_call in
    let at : i ≡ state_at q = i_is ∙ (λ t. state_at (cell (o.terms t) c (up t))) in
    let same_cell : cell me.0.terms c v.up ≡ q = λ t. cell (o.terms t) c (up t) in
    let served = (lawful_of k s r).each c o.lt in let finished = served.finished in let part = count_of-take_all c m.log m.done in let roomy = served.room in let posted = served.posted in
    let grows = count_of-take c m.log m.done m.taken (let a = (lawful_of k s r).done_le in let b = (lawful_of k s r).replies_le in omega arith) in
    let near : InWindow k m c (m.up c) = (o.lt, omega arith, omega arith) in
    let inside : q < callers k * k.window = cell_in k pos c (m.up c) o.lt in
    let idle = (r.each_cell c (m.up c) near).idle (let g : m.up c ≤ m.up c = omega arith in g) in
    let own_is = is_calling k r.who r.seat r.d r.at s.views id me.0 r.seated there is in
    let back : (r.who c).back ≡ v.back = ap (λ (u : CallerView). u.back) (sym own_is.1) in
    dite (dec_le (suc (m.up c)) v.back)
    (λ lt. (
      calling (posted_one v) me.0,
      keeps,
      tt,
      posted_on k s r id me there is o i x n call s.homes last' call' x_is at refl (idle.1 (omega arith)) (λ _ _. refl),
      (refl, (λ _. refl), λ ge. absurd (omega arith)),
    ))
    (λ no. let held = carried (omega arith) ∙ ap (λ z. (z, None) ∷ rest me.1) same_cell in
    let back_home : put_back s.homes me.1 ≡ set s.homes q (some None) = ap (put_back s.homes) held in (
      calling (posted_one v) me.0,
      gives,
      tt,
      posted_on k s r id me there is o i x n call (put_back s.homes me.1) last' call' x_is at (ap length back_home ∙ length-set s.homes q (some None))
          (ap (λ l. get_elem? l q) back_home ∙ set_here s.homes q (some None) (let w = r.slots in omega arith))
          (λ q' ne. ap (λ l. get_elem? l q') back_home ∙ set_else s.homes q q' (some None) ne),
      (refl, (λ lt. absurd (omega arith)), λ _. refl),
    ))
