-- A caller looks for its replies, collects one, and gives its slots back.
use Rattle.palm_base.specs.Desk.{next as came}
use Rattle.std.proofs.Common.{◌≡◌, ℕ, zero, suc, ◌+◌, ◌-◌, ◌*◌, ◌/◌, ◌<◌, ◌≤◌, ◌≢◌, List, [], ◌∷◌, ◌++◌, length, get_or, set, take, sym, refl, ap, ◌∙◌, subst, arith, cond, eq-eqb, ne_eqb, length-set, get_or-set_other, get_or-set_same}
use mathlib.Core.Option.{none, some, some-injective, some-ne-none}
use mathlib.Core.Logic.{dite}
use native.Mathlib.Decide.{ℕ_discrete}
use lib.ListN.{get_elem?}
use native.Mathlib.Nat.{add-mod_right}
use Rattle.atomic_table.specs.Table.{step, keeps, takes, Allows, rest}
use Rattle.atomic_table.proofs.Lists.{set_here, set_else}
use Rattle.palm_base.specs.declared.call.Call.{Call}
use Rattle.palm_base.specs.declared.call.Entry.{Entry}
use Rattle.palm_base.specs.declared.call.Reply.{Reply}
use Rattle.palm_base.specs.declared.desk.Terms.{Terms}
use Rattle.palm_base.specs.declared.desk.Event.TheVariants.{Collect}
use Rattle.palm_base.specs.Arrivals.{count_of, made_by, replies_for}
use Rattle.palm_base.specs.Desk.{collect}
use Rattle.palm_desk.specs.declared.views.CallerView.{CallerView}
use Rattle.palm_desk.specs.declared.views.Role.TheVariants.{Calling}
use Rattle.palm_desk.specs.Views.{calling, looked, given_one}
use Rattle.palm_desk.specs.Rule.{Homes, Holder, cell, state_at, words_at, CellOk, CallerOk, InWindow, CellAt, IsRuled}
use Rattle.palm_desk.specs.Plays.{Looks, Collects}
use Rattle.palm_base.proofs.Arrivals.{some_at, call_at, count_of-take, early}
use Rattle.palm_desk.proofs.Cells.{cell_in, cell_else, word_one, state_word, state_state, not_first_state, state_within}
use Rattle.palm_desk.proofs.SeatViews.{put_here, put_else, is_calling}
use Rattle.palm_desk.proofs.Stays.{lawful_of, each_but, caller_else, by_caller}
use Rattle.palm_base.proofs.Arrivals.{take_one}
use Rattle.palm_desk.proofs.Callers.{own, backs}
use Rattle.palm_base.specs.Desk.{callers}
use Rattle.palm_desk.specs.Views.{filled}

pub looks_at : (k : Terms) (slots id : ℕ) (me : Holder) → me.0.role ≡ Calling → Allows (IsRuled k) slots id me 1 (λ n. n) (Looks (step slots 1 0 0 none) me)
looks_at k slots id me is s r _ there small =
    let v = me.0.calls in let c : ℕ = v.caller in let m = r.m in let o = own k s r id me.0 there is in let ok = o.ok in
    let x : ℕ = get_or s.words 1 0 in
    let done : x ≡ k.base + m.done = r.done in
    let w : CallerView = looked x v in
    let wide = r.wide in (
      calling w me.0,
      keeps,
      tt,
      by_caller k s r id me there is 1 x s.homes m w refl refl
          (get_or-set_other s.words 1 0 x 0 (λ e. omega arith) ∙ r.tail) (get_or-set_same s.words 1 x 0 (let b : 1 < length s.words = omega arith in b) ∙ done) r.reached r.legal r.driver
          (caller_else k m.log (m.up c) (m.got c) (m.given c) m.done s.words c w 1 x (λ n lt. word_one (cell k c (m.up c)) n)
          record {
            caller = refl;
            made = ok.made;
            up_is = ok.up_is;
            collected = ok.collected;
            low = omega arith;
            high = omega arith;
            kept = ok.kept;
            owed = ok.owed;
            short = ok.short;
            may_draft = ok.may_draft;
            begun = ok.begun;
            pending = ok.pending;
          })
          (λ c' lt ne. caller_else k m.log (m.up c') (m.got c') (m.given c') m.done s.words c' (r.who c') 1 x (λ n lt. word_one (cell k c' (m.up c')) n) (r.each_caller c' lt))
          (λ a b near. subst (λ n. CellAt k m n (set s.words 1 x) s.homes a b) (sym (backs k s r id me there is w refl a))
          (cell_else k.base m.taken m.replies (made_by a k.base m.log) (m.up a) (r.who a).back s.words s.homes (cell k a b) b 1 x s.homes (λ e. omega arith) (λ n lt. word_one (cell k a b) n) refl (r.each_cell a b near))),
      (refl, refl),
    )

-- the answer to the call j of c
pub answer_at : (c n : ℕ) (a : List Entry) (rs : List Reply) (j i : ℕ) (call : Call) (r : Reply) → get_elem? (made_by c n a) j ≡ some (n + i, call) → get_elem? rs i ≡ some r → get_elem? (replies_for c n a rs) j ≡ some (n + i, r)
answer_at c n [] rs j i call r at at' = absurd (some-ne-none (n + i, call) (sym at))
answer_at c n (e ∷ a) [] j i call r at at' = absurd (some-ne-none r (sym at'))
answer_at c n (e ∷ a) (y ∷ rs) j i call r at at' = dite (ℕ_discrete e.caller c)
    (λ is. subst (λ b. get_elem? (cond b ((n, y) ∷ replies_for c (n + 1) a rs) (replies_for c (n + 1) a rs)) j ≡ some (n + i, r)) (sym (eq-eqb e.caller c is))
    (mine_here n e.call y a rs j i (ap (λ b. get_elem? (cond b ((n, e.call) ∷ made_by c (n + 1) a) (made_by c (n + 1) a)) j) (sym (eq-eqb e.caller c is)) ∙ at) at'
    (λ j' i' x x'. answer_at c (n + 1) a rs j' i' call r x x')))
    (λ ne. subst (λ b. get_elem? (cond b ((n, y) ∷ replies_for c (n + 1) a rs) (replies_for c (n + 1) a rs)) j ≡ some (n + i, r)) (sym (ne_eqb e.caller c ne))
    (go n y a rs j i (ap (λ b. get_elem? (cond b ((n, e.call) ∷ made_by c (n + 1) a) (made_by c (n + 1) a)) j) (sym (ne_eqb e.caller c ne)) ∙ at) at'
    (λ j' i' x x'. answer_at c (n + 1) a rs j' i' call r x x')))
  where
    go : (n : ℕ) (y : Reply) (a : List Entry) (rs : List Reply) (j i : ℕ) → get_elem? (made_by c (n + 1) a) j ≡ some (n + i, call) → get_elem? (y ∷ rs) i ≡ some r
        → ((j' i' : ℕ) → get_elem? (made_by c (n + 1) a) j' ≡ some (n + 1 + i', call) → get_elem? rs i' ≡ some r → get_elem? (replies_for c (n + 1) a rs) j' ≡ some (n + 1 + i', r)) → get_elem? (replies_for c (n + 1) a rs) j ≡ some (n + i, r)
    go n y a rs j zero at at' rest = let f = call_at c (n + 1) a j (n + 0) call at in let e = f.2 in absurd (omega arith)
    go n y a rs j (suc i) at at' rest = let e : n + suc i ≡ n + 1 + i = omega arith in rest j i (at ∙ ap (λ z. some (z, call)) e) at' ∙ ap (λ z. some (z, r)) (sym e)

    mine_here : (n : ℕ) (x : Call) (y : Reply) (a : List Entry) (rs : List Reply) (j i : ℕ) → get_elem? ((n, x) ∷ made_by c (n + 1) a) j ≡ some (n + i, call) → get_elem? (y ∷ rs) i ≡ some r
        → ((j' i' : ℕ) → get_elem? (made_by c (n + 1) a) j' ≡ some (n + 1 + i', call) → get_elem? rs i' ≡ some r → get_elem? (replies_for c (n + 1) a rs) j' ≡ some (n + 1 + i', r)) → get_elem? ((n, y) ∷ replies_for c (n + 1) a rs) j ≡ some (n + i, r)
    mine_here n x y a rs zero zero at at' rest = (λ t. some (ap (λ (z : ℕ × Call). z.0) (some-injective (n, x) (n + 0, call) at) t, some-injective y r at' t))
    mine_here n x y a rs zero (suc i) at at' rest = let e : n ≡ n + suc i = ap (λ (z : ℕ × Call). z.0) (some-injective (n, x) (n + suc i, call) at) in absurd (omega arith)
    mine_here n x y a rs (suc j) i at at' rest = go n y a rs j i at at' rest

pub collects_at : (k : Terms) (slots id : ℕ) (me : Holder) (i n : ℕ) (call : Call) → me.0.role ≡ Calling → get_elem? me.0.calls.made (length me.0.calls.collected) ≡ some (n, call) → n < me.0.calls.front
    → i ≡ state_at (cell me.0.terms me.0.calls.caller (length me.0.calls.collected)) → Allows (IsRuled k) slots id me i (λ _. 0) (Collects (step slots i 0 0 none) me)
collects_at k slots id me i n call is this_call early_on i_is s r _ there small =
    let v = me.0.calls in let c : ℕ = v.caller in let m = r.m in let o = own k s r id me.0 there is in let ok = o.ok in
    let pos = r.bounded.some_cell in
    let g : ℕ = m.got c in
    let q : ℕ = cell k c g in
    let at : i ≡ state_at q = i_is ∙ (λ t. state_at (cell (o.terms t) c (o.got t))) in
    let call' : get_elem? (made_by c k.base m.log) g ≡ some (n, call) = (λ t. get_elem? (sym ok.made t) (sym o.got t)) ∙ this_call in
    let f = call_at c k.base m.log g n call call' in
    let a : ℕ = f.0 in
    let num : n ≡ k.base + a = f.2 in
    let d1 = (lawful_of k s r).done_le in let d2 = (lawful_of k s r).replies_le in let d3 = (lawful_of k s r).taken_le in
    let high = ok.high in
    let finished : g < count_of c (take m.done m.log) = early c k.base m.log g n call m.done call' (omega arith) in
    let served = (lawful_of k s r).each c o.lt in let posted = served.posted in
    let grows = count_of-take c m.log m.done m.taken (omega arith) in
    let up : g < m.up c = omega arith in
    let replied = some_at m.replies a (omega arith) in
    let y : Reply = replied.0 in
    let pos' : 0 < k.window = pos in
    let near : InWindow k m c g = (o.lt, omega arith, omega arith) in
    let inside : q < callers k * k.window = cell_in k pos c g o.lt in
    let was = ((r.each_cell c g near).posted a call up (call' ∙ ap (λ z. some (z, call)) num)).answered y replied.1 in
    let home : get_elem? s.homes q ≡ some (some (filled n y)) = was.1 ∙ ap (λ z. some (some (filled z y))) (sym num) in
    let m' = collect k c m in
    let law = came m (Collect c) (o.lt, finished) r.reached in
    let w : CallerView = given_one n y v in
    let words' : List ℕ = set s.words i 0 in
    let homes' : Homes = set s.homes q none in
    let first = not_first_state q in
    let got' = put_here m.got c (g + 1) in
    let given' = put_here m.given c (take (g + 1) (replies_for c k.base m.log m.replies)) in
    let word_else : (q' l : ℕ) → l < 3 → words_at q' + l ≢ i = λ q' l lt e. state_word q q' l lt (e ∙ at) in
    let now : get_or words' (state_at q) 0 ≡ 0 = ap (λ z. get_or (set s.words z 0) (state_at q) 0) at ∙ get_or-set_same s.words (state_at q) 0 0 (state_within q (callers k * k.window) (length s.words) inside r.wide) in
    let again : cell k c (g + k.window) ≡ q = ap (λ z. c * k.window + z) (add-mod_right g k.window) in
    let owed = ok.owed in
    let own_back : (r.who c).back ≡ v.back = let own_is = is_calling k r.who r.seat r.d r.at s.views id me.0 r.seated there is in ap (λ (u : CallerView). u.back) (sym own_is.1) in
    let given_is : v.collected ++ (n, y) ∷ [] ≡ take (g + 1) (replies_for c k.base m.log m.replies) =
    ap (λ l. l ++ (n, y) ∷ []) (ok.collected ∙ served.given) ∙ sym (take_one (replies_for c k.base m.log m.replies) g (n, y) (answer_at c k.base m.log m.replies g a call y (call' ∙ ap (λ z. some (z, call)) num) replied.1 ∙ ap (λ z. some (z, y)) (sym num))) in
    let got_at : (j : ℕ) → j ≢ c → m'.got j ≡ m.got j = λ j ne. put_else m.got c (g + 1) j ne in
    let near' : InWindow k m' c (g + k.window) = (o.lt, subst (λ z. z ≤ g + k.window) (sym got') (omega arith), subst (λ z. g + k.window < z + k.window) (sym got') (omega arith)) in (
      calling w me.0,
      takes q (filled n y),
      home,
      by_caller k s r id me there is i 0 homes' m' w refl (length-set s.homes q none)
          (get_or-set_other s.words i 0 0 0 (λ e. first.0 (e ∙ at)) ∙ r.tail) (get_or-set_other s.words i 1 0 0 (λ e. first.1 (e ∙ at)) ∙ r.done) law r.legal
          (let z = r.driver in record { taken = z.taken; replies = z.replies; done = z.done; seats = z.seats; idle = z.idle; found = z.found })
          (subst (λ (z : ℕ × List (ℕ × Reply)). CallerOk k m.log (m.up c) z.0 z.1 m.done words' c w) (λ t. (sym got' t, sym given' t))
          (caller_else k m.log (m.up c) (g + 1) (take (g + 1) (replies_for c k.base m.log m.replies)) m.done s.words c w i 0 (λ l lt. word_else (cell k c (m.up c)) l lt)
          record {
            caller = refl;
            made = ok.made;
            up_is = ok.up_is;
            collected = given_is;
            low = ok.low;
            high = ok.high;
            kept = ok.kept;
            owed = omega arith;
            short = ok.short;
            may_draft = λ some_draft. let d = ok.may_draft some_draft in (d.0, let lt = d.1 in omega arith);
            begun = ok.begun;
            pending = ok.pending;
          }))
          (λ c' lt ne. subst (λ (z : ℕ × List (ℕ × Reply)). CallerOk k m.log (m.up c') z.0 z.1 m.done words' c' (r.who c'))
          (λ t. (sym (put_else m.got c (g + 1) c' ne) t, sym (put_else m.given c (take (g + 1) (replies_for c k.base m.log m.replies)) c' ne) t))
          (caller_else k m.log (m.up c') (m.got c') (m.given c') m.done s.words c' (r.who c') i 0 (λ l lt'. word_else (cell k c' (m.up c')) l lt') (r.each_caller c' lt)))
          (λ c' j near_j. subst (λ b. CellAt k m' b words' homes' c' j) (sym (backs k s r id me there is w refl c'))
          (each_but k pos m' c (g + k.window) (λ a' b. CellAt k m' (r.who a').back words' homes' a' b) near'
          (subst (λ z. CellOk k.base m.taken m.replies (made_by c k.base m.log) (m.up c) (r.who c).back words' homes' z (g + k.window)) (sym again)
          record {
            idle = λ le. (now, (λ lt. absurd (omega arith)), λ ge. set_here s.homes q none (let wide = r.slots in omega arith));
            posted = λ l call'' lt at'. absurd (let room = served.room in let low = served.low in omega arith);
          })
          (λ a' b near_b apart.
          let apart' : cell k a' b ≢ q = λ e. apart (e ∙ sym again) in
          let old : InWindow k m a' b = dite (ℕ_discrete a' c)
          (λ e. let lo : g + 1 ≤ b = subst (λ z. z ≤ b) (ap m'.got e ∙ got') near_b.1 in let hi : b < g + 1 + k.window = subst (λ z. b < z + k.window) (ap m'.got e ∙ got') near_b.2 in
          let ne : b ≢ g + k.window = λ h. apart (ap (cell k a') h ∙ ap (λ z. cell k z (g + k.window)) e) in
          (near_b.0, subst (λ z. m.got z ≤ b) (sym e) (omega arith), subst (λ z. b < m.got z + k.window) (sym e) (omega arith)))
          (λ ne. (near_b.0, subst (λ z. z ≤ b) (got_at a' ne) near_b.1, subst (λ z. b < z + k.window) (got_at a' ne) near_b.2)) in
          cell_else k.base m.taken m.replies (made_by a' k.base m.log) (m.up a') (r.who a').back s.words s.homes (cell k a' b) b i 0 homes' (λ e. state_state (cell k a' b) q apart' (sym (sym at ∙ e)))
          (λ l lt'. word_else (cell k a' b) l lt') (set_else s.homes q (cell k a' b) none apart') (r.each_cell a' b old))
          c' j near_j)),
      (n, call, y, this_call, refl, ap (λ z. (z, filled n y) ∷ me.1) (cell_back q i at)),
    )
  where
    cell_back : (q i : ℕ) → i ≡ state_at q → q ≡ (i - 2) / 4
    cell_back q i e = omega arith
