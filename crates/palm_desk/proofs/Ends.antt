-- A desk is opened, seats are made, and at the end slots go home and seats are joined.
use Rattle.palm_base.specs.Desk.{start}
use Rattle.std.proofs.Common.{◌≡◌, ℕ, zero, suc, ◌+◌, ◌*◌, ◌<◌, ◌≤◌, ◌≢◌, ◌⊎◌, List, [], ◌∷◌, ◌++◌, length, get_or, set, sym, refl, ap, ◌∙◌, subst, arith, length-set, inl, inr, ⊎_elim, None}
use mathlib.Core.Option.{none, some, some-injective, some-ne-none}
use mathlib.Core.Logic.{dite}
use native.Mathlib.Decide.{ℕ_discrete}
use lib.ListN.{get_elem?, length-replicate}
use lib.Seq.{set-get_or}
use Rattle.atomic_table.specs.Table.{step, gives, Allows, put_back, rest}
use Rattle.atomic_table.proofs.Lists.{at_longer, at_last, set_here, set_else}
use Rattle.palm_base.specs.declared.desk.Terms.{Terms}
use Rattle.palm_base.specs.Desk.{Machine, put}
use Rattle.palm_desk.specs.declared.views.CallerView.{CallerView}
use Rattle.palm_desk.specs.declared.views.Role.TheVariants.{Calling, Driving}
use Rattle.palm_desk.specs.declared.views.View.{View}
use Rattle.palm_desk.specs.Views.{calling}
use Rattle.palm_desk.specs.Rule.{Homes, Holder, cell, state_at, words_at, CallerAt, DriverOk, InWindow, CellAt, IsRuled}
use Rattle.palm_base.proofs.Arrivals.{at_below, count_of-take}
use Rattle.palm_base.proofs.DeskLaws.{at_put}
use Rattle.palm_desk.proofs.Cells.{cell_in, begins_none}
use Rattle.palm_desk.proofs.SeatViews.{put_here, put_else, is_calling}
use Rattle.palm_desk.proofs.Stays.{lawful_of, each_but}
use Rattle.palm_desk.proofs.Callers.{own}
use Rattle.std.proofs.Common.{slice_index, replicate, Contains, map, max}
use Rattle.std.proofs.lemmas.List.Elements.{Contains-append_left, Contains-append_right}
use Rattle.atomic_table.specs.Table.{Splits, Joins, opening}
use Rattle.palm_desk.specs.declared.views.DriverView.{DriverView}
use Rattle.palm_desk.specs.declared.views.Role.{Role}
use Rattle.palm_desk.specs.declared.views.Role.TheVariants.{Spent}
use Rattle.palm_base.specs.Desk.{opened}
use Rattle.palm_desk.specs.Views.{fresh, starts, maker, newcomer, seated, spent, closed_by, settled}
use Rattle.palm_desk.specs.Rule.{Bounded, Knows}
use Rattle.palm_desk.specs.Plays.{Settles}
use Rattle.palm_desk.proofs.SeatViews.{calls_on, is_driving}
use Rattle.atomic_table.proofs.Lists.{at_set}
use Rattle.palm_base.specs.Desk.{callers}

-- a load gives home the slot of the first idle call whose slot is out
pub settles_at : (k : Terms) (slots id : ℕ) (me : Holder) (j : ℕ) → me.0.role ≡ Calling → me.0.calls.up ≡ length me.0.calls.made → j ≡ max me.0.calls.back me.0.calls.up → j < length me.0.calls.collected + me.0.terms.window
    → me.1 ≡ (cell me.0.terms me.0.calls.caller j, None) ∷ rest me.1 → Allows (IsRuled k) slots id me 0 (λ n. n) (Settles (step slots 0 0 0 none) me)
settles_at k slots id me j is all j_is room carried s r _ there small =
    let v = me.0.calls in let c : ℕ = v.caller in let m = r.m in let o = own k s r id me.0 there is in let ok = o.ok in
    let up = ok.up_is in let got = o.got in
    let window : me.0.terms.window ≡ k.window = ap (λ (t : Terms). t.window) o.terms in
    let pos = r.bounded.some_cell in
    let x : ℕ = get_or s.words 0 0 in
    let w : CallerView = settled v in
    let served = (lawful_of k s r).each c o.lt in let fin = served.finished in let posted = served.posted in
    let grows = count_of-take c m.log m.done m.taken (let a = (lawful_of k s r).done_le in let b = (lawful_of k s r).replies_le in omega arith) in
    let near : InWindow k m c j = (o.lt, omega arith, omega arith) in
    let q : ℕ = cell k c j in
    let inside : q < callers k * k.window = cell_in k pos c j o.lt in
    let kept = ok.kept in
    let own_is = is_calling k r.who r.seat r.d r.at s.views id me.0 r.seated there is in
    let own_back : (r.who c).back ≡ v.back = ap (λ (u : CallerView). u.back) (sym own_is.1) in
    let homes' : Homes = set s.homes q (some None) in
    let back_home : put_back s.homes me.1 ≡ homes' = ap (put_back s.homes) carried ∙ ap (λ t. set s.homes (cell t c j) (some None)) o.terms in
    let now_back : (put r.who c w c).back ≡ j + 1 = ap (λ (u : CallerView). u.back) (put_here r.who c w) ∙ ap (λ z. z + 1) (sym j_is) in
    let wide = r.slots in
    let ruled : IsRuled k record { words = set s.words 0 x; homes = homes'; views = set s.views id (calling w me.0) } =
    subst (λ ws. IsRuled k record { words = ws; homes = homes'; views = set s.views id (calling w me.0) }) (sym (set-get_or s.words 0 0))
    (record {
      m = m;
      who = put r.who c w;
      seat = r.seat;
      d = r.d;
      at = r.at;
      bounded = r.bounded;
      wide = r.wide;
      slots = length-set s.homes q (some None) ∙ r.slots;
      tail = r.tail;
      done = r.done;
      reached = r.reached;
      legal = r.legal;
      driver = r.driver;
      each_caller = λ c' lt. at_put r.who c w (λ i u. i < callers k → CallerAt k m s.words i u) c'
          (λ e _. subst (λ i. CallerAt k m s.words i w) (sym e) record {
            caller = refl;
            made = ok.made;
            up_is = ok.up_is;
            collected = ok.collected;
            low = ok.low;
            high = ok.high;
            kept = omega arith;
            owed = omega arith;
            short = ok.short;
            may_draft = ok.may_draft;
            begun = ok.begun;
            pending = ok.pending;
          })
          (λ ne h. r.each_caller c' h) lt;
      each_cell = each_but k pos m c j (λ a b. CellAt k m (put r.who c w a).back s.words homes' a b) near
          (let was = (r.each_cell c j near).idle (omega arith) in record {
            idle = λ le. (was.0, (λ lt. set_here s.homes q (some None) (omega arith)), λ ge. absurd (omega arith));
            posted = λ n call lt at. absurd (omega arith);
          })
          (λ a b near' apart.
          let old = r.each_cell a b near' in
          let home : get_elem? homes' (cell k a b) ≡ get_elem? s.homes (cell k a b) = set_else s.homes q (cell k a b) (some None) apart in
          dite (ℕ_discrete a c)
          (λ e. let b_not : b ≢ j = λ h. apart (ap (cell k a) h ∙ ap (λ z. cell k z j) e) in
          let back_a : (put r.who c w a).back ≡ j + 1 = ap (λ z. (put r.who c w z).back) e ∙ now_back in
          let old_a : (r.who a).back ≡ v.back = ap (λ z. (r.who z).back) e ∙ own_back in
          let up_a : m.up a ≡ v.up = ap m.up e ∙ sym up in
          record {
            idle = λ le. let i = old.idle le in (i.0, (λ lt. home ∙ i.1 (omega arith)), λ ge. home ∙ i.2 (omega arith));
            posted = λ n call lt at. let p = old.posted n call lt at in record {
              spelled = p.spelled;
              waits = λ le. let y = p.waits le in (y.0, home ∙ y.1);
              held = λ ge lt'. let y = p.held ge lt' in (y.0, home ∙ y.1);
              answered = λ z at'. let y = p.answered z at' in (y.0, home ∙ y.1);
            };
          })
          (λ ne. subst (λ z. CellAt k m z s.words homes' a b) (sym (ap (λ (u : CallerView). u.back) (put_else r.who c w a ne)))
          record {
            idle = λ le. let i = old.idle le in (i.0, (λ lt. home ∙ i.1 lt), λ ge. home ∙ i.2 ge);
            posted = λ n call lt at. let p = old.posted n call lt at in record {
              spelled = p.spelled;
              waits = λ le. let y = p.waits le in (y.0, home ∙ y.1);
              held = λ ge lt'. let y = p.held ge lt' in (y.0, home ∙ y.1);
              answered = λ z at'. let y = p.answered z at' in (y.0, home ∙ y.1);
            };
          }));
      seated = calls_on k r.who r.seat r.d r.at s.views id me.0 w r.seated there is refl;
    })
    in
    (calling w me.0, gives, tt, subst (λ hs. IsRuled k record { words = set s.words 0 x; homes = hs; views = set s.views id (calling w me.0) }) (sym back_home) ruled, (refl, refl))

at_one_more : {A : Type 0} (l : List A) (a b : A) (j : ℕ) → get_elem? (l ++ a ∷ []) j ≡ some b → ((j < length l) × (get_elem? l j ≡ some b)) ⊎ ((j ≡ length l) × (a ≡ b))
at_one_more [] a b zero at = inr (refl, some-injective a b at)
at_one_more [] a b (suc j) at = absurd (some-ne-none b (sym at))
at_one_more (z ∷ l) a b zero at = inl (omega arith, at)
at_one_more {A} (z ∷ l) a b (suc j) at = ⊎_elim (λ (h : (j < length l) × (get_elem? l j ≡ some b)). inl (omega arith, h.1)) (λ (h : (j ≡ length l) × (a ≡ b)). inr (ap suc h.0, h.1)) (at_one_more l a b j at)

more_seats : (k : Terms) (m : Machine) (d : DriverView) → d.seats < callers k → DriverOk k m d → DriverOk k m (record d { seats = d.seats + 1 })
more_seats k m d lt ok = record { taken = ok.taken; replies = ok.replies; done = ok.done; seats = omega arith; idle = ok.idle; found = ok.found }

pub splits_at : (k : Terms) (id : ℕ) (v : View) → v.role ≡ Driving → v.drives.seats < callers v.terms → Splits (IsRuled k) id v (seated v) (newcomer v)
splits_at k id v is room s r there =
    let o = is_driving k r.who r.seat r.d r.at s.views id v r.seated there is in
    let n : ℕ = length s.views in
    let c : ℕ = r.d.seats in
    let d' : DriverView = record r.d { seats = r.d.seats + 1 } in
    let c_is : v.drives.seats ≡ c = ap (λ (d : DriverView). d.seats) o.1 in
    let room' : c < callers k = (let t : callers v.terms ≡ callers k = ap callers o.0 in omega arith) in
    let seat' : ℕ → ℕ = put r.seat c n in
    let s' = r.seated in
    let views' : List View = set s.views id (seated v) in
    let long : length views' ≡ n = length-set s.views id (seated v) in
    let in_range = at_below s.views id v there in
    let fresh_is : fresh v.terms v.drives.seats ≡ r.who c = (λ z. fresh (o.0 z) (c_is z)) ∙ sym (s'.unmade c (let g : c ≤ c = omega arith in g) room') in
    let new : View = newcomer v in
    let old_seat : (i : ℕ) → i < c → seat' i ≡ r.seat i = λ i lt. put_else r.seat c n i (λ e. omega arith) in
    let keep : (j : ℕ) (x : View) → j ≢ id → (ro : Role) → Knows k r.who r.seat r.d r.at j x ro → Knows k r.who seat' d' r.at j x ro = λ j x ne ro. knows_more k r.who r.seat r.d r.at c n id refl o.2 j x ne ro in
    record {
      m = r.m;
      who = r.who;
      seat = seat';
      d = d';
      at = r.at;
      bounded = r.bounded;
      wide = r.wide;
      slots = r.slots;
      tail = r.tail;
      done = r.done;
      reached = r.reached;
      legal = r.legal;
      driver = more_seats k r.m r.d room' r.driver;
      each_caller = r.each_caller;
      each_cell = r.each_cell;
      seated = record {
        each = λ j x e. ⊎_elim
            (λ (h : (j < length views') × (get_elem? views' j ≡ some x)). ⊎_elim
            (λ (g : (j ≡ id) × (seated v ≡ x)). subst (λ (y : ℕ × View). Knows k r.who seat' d' r.at y.0 y.1 y.1.role) (λ z. (sym g.0 z, g.1 z))
            (subst (Knows k r.who seat' d' r.at id (seated v)) (sym is) (o.0, ap (λ (d : DriverView). record d { seats = d.seats + 1 }) o.1, o.2)))
            (λ (g : (j ≢ id) × (get_elem? s.views j ≡ some x)). keep j x g.0 x.role (s'.each j x g.1))
            (at_set s.views id j (seated v) x h.1))
            (λ (h : (j ≡ length views') × (new ≡ x)). subst (λ (y : ℕ × View). Knows k r.who seat' d' r.at y.0 y.1 y.1.role) (λ z. (sym (h.0 ∙ long) z, h.1 z))
            (o.0, fresh_is ∙ ap r.who (sym c_is), ap seat' c_is ∙ put_here r.seat c n, omega arith))
            (at_one_more views' new x j e);
        driver = (seated v, at_longer views' (new ∷ []) r.at (seated v) (ap (get_elem? views') o.2 ∙ set_here s.views id (seated v) in_range), is);
        found = λ i lt. dite (ℕ_discrete i c)
            (λ e. inl (new, ap (get_elem? (views' ++ new ∷ [])) (ap seat' e ∙ put_here r.seat c n) ∙ at_last views' new n long, refl, c_is ∙ sym e))
            (λ ne. let lt' : i < c = omega arith in ⊎_elim
            (λ (h : (x : View) × (get_elem? s.views (r.seat i) ≡ some x) × (x.role ≡ Calling) × (x.calls.caller ≡ i)).
            let apart : r.seat i ≢ id = λ e. roles (sym h.2 ∙ ap (λ (y : View). y.role) (some-injective h.0 v (sym h.1 ∙ ap (get_elem? s.views) e ∙ there)) ∙ is) in
            inl (h.0, at_longer views' (new ∷ []) (seat' i) h.0 (ap (get_elem? views') (old_seat i lt') ∙ set_else s.views id (r.seat i) (seated v) apart ∙ h.1), h.2, h.3))
            (λ (h : (r.seat i ≡ r.at) × Contains r.d.ended (r.who i)). inr (old_seat i lt' ∙ h.0, h.1))
            (s'.found i lt'));
        ended = λ i x lt. let e = s'.ended i x lt in (e.0, old_seat (get_or r.d.ended i x).caller e.2 ∙ e.1, let l = e.2 in omega arith);
        unmade = λ i le lt. s'.unmade i (omega arith) lt;
      };
    }
  where
    roles : Calling ≡ Driving → ⊥
    roles e = cc

    knows_more : (k : Terms) (who : ℕ → CallerView) (seat : ℕ → ℕ) (d : DriverView) (at c n id : ℕ) → c ≡ d.seats → at ≡ id → (j : ℕ) (x : View) → j ≢ id → (ro : Role) → Knows k who seat d at j x ro → Knows k who (put seat c n) (record d { seats = d.seats + 1 }) at j x ro
    knows_more k who seat d at c n id c_is at_is j x ne Calling kn = let lt = kn.3 in (kn.0, kn.1, put_else seat c n x.calls.caller (λ e. omega arith) ∙ kn.2, omega arith)
    knows_more k who seat d at c n id c_is at_is j x ne Driving kn = absurd (ne (sym kn.2 ∙ at_is))
    knows_more k who seat d at c n id c_is at_is j x ne Spent kn = tt

more_ended : (k : Terms) (m : Machine) (d : DriverView) (v : CallerView) → DriverOk k m d → DriverOk k m (record d { ended = d.ended ++ v ∷ [] })
more_ended k m d v ok = record { taken = ok.taken; replies = ok.replies; done = ok.done; seats = ok.seats; idle = ok.idle; found = ok.found }

get_or-longer : {A : Type 0} (l : List A) (a : A) (n : ℕ) (x : A) → n < length (l ++ a ∷ []) → ((n < length l) × (get_or (l ++ a ∷ []) n x ≡ get_or l n x)) ⊎ (get_or (l ++ a ∷ []) n x ≡ a)
get_or-longer [] a zero x lt = inr refl
get_or-longer [] a (suc n) x lt = absurd (omega arith)
get_or-longer (z ∷ l) a zero x lt = inl (omega arith, refl)
get_or-longer {A} (z ∷ l) a (suc n) x lt = ⊎_elim (λ (h : (n < length l) × (get_or (l ++ a ∷ []) n x ≡ get_or l n x)). inl (omega arith, h.1)) (λ (h : get_or (l ++ a ∷ []) n x ≡ a). inr h) (get_or-longer l a n x (omega arith))

knows_less : (k : Terms) (who : ℕ → CallerView) (seat : ℕ → ℕ) (d d' : DriverView) (at c other : ℕ) → d'.seats ≡ d.seats → seat c ≡ other → (j : ℕ) (x : View) → j ≢ at → j ≢ other → (ro : Role) → Knows k who seat d at j x ro → Knows k who (put seat c at) d' at j x ro
knows_less k who seat d d' at c other seats c_is j x ne ne' Calling kn = (kn.0, kn.1, put_else seat c at x.calls.caller (λ e. ne' (sym kn.2 ∙ ap seat e ∙ c_is)) ∙ kn.2, subst (λ n. x.calls.caller < n) (sym seats) kn.3)
knows_less k who seat d d' at c other seats c_is j x ne ne' Driving kn = absurd (ne (sym kn.2))
knows_less k who seat d d' at c other seats c_is j x ne ne' Spent kn = tt

calling_not_driving : Calling ≡ Driving → ⊥
calling_not_driving e = cc

one_here : (v : CallerView) → Contains (v ∷ []) v
one_here v = (0, omega arith, refl)

-- the driver takes in a caller's view
pub joins_at : (k : Terms) (id : ℕ) (v : View) (other : ℕ) (w : View) → v.role ≡ Driving → w.role ≡ Calling → Joins (IsRuled k) id v other w (closed_by v w) spent
joins_at k id v other w is is' s r there ne there' =
    let s' = r.seated in
    let v' : View = closed_by v w in
    let o = is_driving k r.who r.seat r.d r.at s.views id v s' there is in
    let there'' : get_elem? s.views other ≡ some w = sym (set_else s.views id other v' ne) ∙ there' in
    let o' = is_calling k r.who r.seat r.d r.at s.views other w s' there'' is' in
    let c : ℕ = w.calls.caller in
    let d' : DriverView = record r.d { ended = r.d.ended ++ w.calls ∷ [] } in
    let seat' : ℕ → ℕ = put r.seat c r.at in
    let views' : List View = set s.views id v' in
    let views'' : List View = set views' other spent in
    let seat_at : (i : ℕ) → r.seat i ≡ r.at → seat' i ≡ r.at = λ i e. at_put r.seat c r.at (λ j u. j ≡ i → u ≡ r.at) i (λ _ _. refl) (λ _ _. e) refl in
    record {
      m = r.m;
      who = r.who;
      seat = seat';
      d = d';
      at = r.at;
      bounded = r.bounded;
      wide = r.wide;
      slots = r.slots;
      tail = r.tail;
      done = r.done;
      reached = r.reached;
      legal = r.legal;
      driver = more_ended k r.m r.d w.calls r.driver;
      each_caller = r.each_caller;
      each_cell = r.each_cell;
      seated = record {
        each = λ j x e. ⊎_elim
            (λ (h : (j ≡ other) × (spent ≡ x)). subst (λ (y : View). Knows k r.who seat' d' r.at j y y.role) h.1 tt)
            (λ (h : (j ≢ other) × (get_elem? views' j ≡ some x)). ⊎_elim
            (λ (g : (j ≡ id) × (v' ≡ x)). subst (λ (y : ℕ × View). Knows k r.who seat' d' r.at y.0 y.1 y.1.role) (λ z. (sym g.0 z, g.1 z))
            (subst (Knows k r.who seat' d' r.at id v') (sym is) (o.0, ap (λ (d : DriverView). record d { ended = d.ended ++ w.calls ∷ [] }) o.1, o.2)))
            (λ (g : (j ≢ id) × (get_elem? s.views j ≡ some x)). knows_less k r.who r.seat r.d d' r.at c other refl o'.2 j x (λ a. g.0 (a ∙ o.2)) h.0 x.role (s'.each j x g.1))
            (at_set s.views id j v' x h.1))
            (at_set views' other j spent x e);
        driver = (v', set_else views' other r.at spent (λ e. ne (sym e ∙ o.2)) ∙ ap (get_elem? views') o.2 ∙ set_here s.views id v' (at_below s.views id v there), is);
        found = λ i lt. dite (ℕ_discrete i c)
            (λ e. inr (ap seat' e ∙ put_here r.seat c r.at, subst (Contains (r.d.ended ++ w.calls ∷ [])) (o'.1 ∙ ap r.who (sym e)) (Contains-append_right r.d.ended (w.calls ∷ []) w.calls (one_here w.calls))))
            (λ apart. ⊎_elim
            (λ (h : (x : View) × (get_elem? s.views (r.seat i) ≡ some x) × (x.role ≡ Calling) × (x.calls.caller ≡ i)).
            let not_id : r.seat i ≢ id = λ e. calling_not_driving (sym h.2 ∙ ap (λ (y : View). y.role) (some-injective h.0 v (sym h.1 ∙ ap (get_elem? s.views) e ∙ there)) ∙ is) in
            let not_other : r.seat i ≢ other = λ e. apart (sym h.3 ∙ ap (λ (y : View). y.calls.caller) (some-injective h.0 w (sym h.1 ∙ ap (get_elem? s.views) e ∙ there''))) in
            inl (h.0, ap (get_elem? views'') (put_else r.seat c r.at i apart) ∙ set_else views' other (r.seat i) spent not_other ∙ set_else s.views id (r.seat i) v' not_id ∙ h.1, h.2, h.3))
            (λ (h : (r.seat i ≡ r.at) × Contains r.d.ended (r.who i)). inr (seat_at i h.0, Contains-append_left r.d.ended (w.calls ∷ []) (r.who i) h.1))
            (s'.found i lt));
        ended = λ i x lt. ⊎_elim
            (λ (h : (i < length r.d.ended) × (get_or (r.d.ended ++ w.calls ∷ []) i x ≡ get_or r.d.ended i x)).
            subst (λ (y : CallerView). (y ≡ r.who y.caller) × (seat' y.caller ≡ r.at) × (y.caller < r.d.seats)) (sym h.1) (let e = s'.ended i x h.0 in (e.0, seat_at (get_or r.d.ended i x).caller e.1, e.2)))
            (λ (h : get_or (r.d.ended ++ w.calls ∷ []) i x ≡ w.calls).
            subst (λ (y : CallerView). (y ≡ r.who y.caller) × (seat' y.caller ≡ r.at) × (y.caller < r.d.seats)) (sym h) (o'.1, put_here r.seat c r.at, o'.3))
            (get_or-longer r.d.ended w.calls i x lt);
        unmade = s'.unmade;
      };
    }

at_replicate : {A : Type 0} (n i : ℕ) (a : A) → i < n → get_elem? (replicate n a) i ≡ some a
at_replicate zero i a lt = absurd (omega arith)
at_replicate (suc n) zero a lt = refl
at_replicate (suc n) (suc i) a lt = at_replicate n i a (omega arith)

at_all : {A B : Type 0} (f : A → B) (l : List A) (i : ℕ) (a : A) → get_elem? l i ≡ some a → get_elem? (map f l) i ≡ some (f a)
at_all f [] i a e = absurd (some-ne-none a (sym e))
at_all {A} f (x ∷ l) zero a e = ap (λ (y : A). some (f y)) (some-injective x a e)
at_all f (x ∷ l) (suc i) a e = at_all f l i a e

length-all : {A B : Type 0} (f : A → B) (l : List A) → length (map f l) ≡ length l
length-all f [] = refl
length-all f (x ∷ l) = ap suc (length-all f l)

-- a new desk
pub opens_at : (k : Terms) (ws : List ℕ) → Bounded k → length ws ≡ 4 * (callers k * k.window) + 2 → slice_index ws 0 ≡ k.base → slice_index ws 1 ≡ k.base → ((i : ℕ) → 2 ≤ i → slice_index ws i ≡ 0)
    → IsRuled k (opening ws (replicate (callers k * k.window) None) (maker k))
opens_at k ws b wide tail done zeros = record {
  m = opened;
  who = fresh k;
  seat = λ c. 0;
  d = starts;
  at = 0;
  bounded = b;
  wide = wide;
  slots = length-all some (replicate (callers k * k.window) None) ∙ length-replicate (callers k * k.window) None;
  tail = tail ∙ (let g : k.base ≡ k.base + 0 = omega arith in g);
  done = done ∙ (let g : k.base ≡ k.base + 0 = omega arith in g);
  reached = start;
  legal = λ p e at. absurd (some-ne-none e (sym at));
  driver = record { taken = refl; replies = refl; done = refl; seats = omega arith; idle = λ _. refl; found = λ c e. absurd (omega arith) };
  each_caller = λ c lt. record {
    caller = refl;
    made = refl;
    up_is = refl;
    collected = refl;
    low = omega arith;
    high = omega arith;
    kept = omega arith;
    owed = omega arith;
    short = omega arith;
    may_draft = λ h. absurd (omega arith);
    begun = begins_none ws (words_at (cell k c 0)) [] refl;
    pending = λ i call at. absurd (some-ne-none (k.base + i, call) (sym at));
  };
  each_cell = λ c j near. let q : ℕ = cell k c j in let hi = near.2 in record {
    idle = λ le. (zeros (state_at q) (omega arith), (λ lt. at_all some (replicate (callers k * k.window) None) q None (at_replicate (callers k * k.window) q None (cell_in k b.some_cell c j near.0))), λ ge. absurd (omega arith));
    posted = λ i call lt at. absurd (omega arith);
  };
  seated = record {
    each = λ id v at. alone id v at;
    driver = (maker k, refl, refl);
    found = λ c lt. absurd (omega arith);
    ended = λ i x lt. absurd (omega arith);
    unmade = λ c le lt. refl;
  };
}
  where
    alone : (id : ℕ) (v : View) → get_elem? (maker k ∷ []) id ≡ some v → Knows k (fresh k) (λ c. 0) starts 0 id v v.role
    alone zero v at = subst (λ (y : View). Knows k (fresh k) (λ c. 0) starts 0 0 y y.role) (some-injective (maker k) v at) (refl, refl, refl)
    alone (suc id) v at = absurd (some-ne-none v (sym at))
