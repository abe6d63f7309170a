-- Each step of the driver keeps the rule.
use Rattle.std.proofs.Common.{◌≡◌, ℕ, zero, suc, ◌+◌, ◌*◌, ◌<◌, ◌≤◌, List, [], ◌∷◌, ◌++◌, length, get_or, set, take, sym, refl, ap, ◌∙◌, subst, arith, cond, eq-eqb, ne_eqb}
use mathlib.Core.Option.{none, some}
use mathlib.Core.Logic.{dite}
use native.Mathlib.Decide.{ℕ_discrete, dec_le}
use lib.ListN.{get_elem?}
use native.Mathlib.Nat.{add-mod_right}
use lib.Seq.{length-take-le, set-get_or}
use Rattle.std.proofs.lemmas.List.{append-nil}
use Rattle.atomic_table.specs.Table.{step, keeps, Allows}
use Rattle.palm_base.specs.declared.call.Call.{Call}
use Rattle.palm_base.specs.declared.call.Entry.{Entry}
use Rattle.palm_base.specs.declared.desk.Terms.{Terms}
use Rattle.palm_base.specs.Arrivals.{count_of, made_by}
use Rattle.palm_base.specs.Desk.{Machine, Lawful}
use Rattle.palm_desk.specs.declared.views.Role.TheVariants.{Driving}
use Rattle.palm_desk.specs.declared.views.View.{View}
use Rattle.palm_desk.specs.Views.{called}
use Rattle.palm_desk.specs.Rule.{Desk, Holder, cell, state_at, words_at, Posted, DriverOk, InWindow, IsRuled}
use Rattle.palm_base.proofs.Arrivals.{some_at, length-made_by, call_at, count_of-take, early, late}
use Rattle.palm_desk.specs.declared.views.DriverView.{DriverView}
use Rattle.palm_desk.specs.Views.{driving, scanned, read, found_if}
use Rattle.palm_desk.specs.Plays.{Starts, Scans, Reads}
use Rattle.palm_base.proofs.Arrivals.{at_call}
use Rattle.palm_desk.proofs.SeatViews.{is_driving}
use Rattle.palm_desk.proofs.Stays.{lawful_of, by_driver}
use Rattle.palm_base.specs.Desk.{callers}
use Rattle.palm_desk.specs.Words.{spell}

-- what the driver's view says of the machine
pub record Drive (k : Terms) (s : Desk) (r : IsRuled k s) (v : View) : Type 0 where
  pub terms : v.terms ≡ k
  pub ok : DriverOk k r.m v.drives
  pub seats : v.drives.seats ≡ r.d.seats
  pub ended : v.drives.ended ≡ r.d.ended
  pub taken : length v.drives.taken ≡ r.m.taken
  pub replies : length v.drives.replies ≡ length r.m.replies

pub drive : (k : Terms) (s : Desk) (r : IsRuled k s) (id : ℕ) (v : View) → get_elem? s.views id ≡ some v → v.role ≡ Driving → Drive k s r v
drive k s r id v there is =
    let o = is_driving k r.who r.seat r.d r.at s.views id v r.seated there is in
    let ok : DriverOk k r.m v.drives = subst (DriverOk k r.m) (sym o.1) r.driver in
    record {
      terms = o.0;
      ok = ok;
      seats = ap (λ (d : DriverView). d.seats) o.1;
      ended = ap (λ (d : DriverView). d.ended) o.1;
      taken = ap length ok.taken ∙ length-take-le r.m.taken r.m.log (lawful_of k s r).taken_le;
      replies = ap length ok.replies;
    }

-- where the next call of c to be taken lies
pub record Next (k : Terms) (m : Machine) (c : ℕ) : Type 0 where
  pub low : m.got c ≤ count_of c (take m.taken m.log)
  pub high : count_of c (take m.taken m.log) ≤ m.up c
  pub room : m.up c ≤ m.got c + k.window

pub next : (k : Terms) (m : Machine) (c : ℕ) → Lawful k m → c < callers k → Next k m c
next k m c l lt = let s = l.each c lt in let d = l.done_le in let r = l.replies_le in let grows = count_of-take c m.log m.done m.taken (omega arith) in let f = s.finished in let a = s.low in let b = s.room in
    record { low = omega arith; high = s.posted; room = omega arith }

-- a state that is Called with the next number is that of the next call
next_called : (k : Terms) (s : Desk) (r : IsRuled k s) (c : ℕ) → c < callers k → get_or s.words (state_at (cell k c (count_of c (take r.m.taken r.m.log)))) 0 ≡ called (k.base + r.m.taken)
    → (e : Entry) × (get_elem? r.m.log r.m.taken ≡ some e) × (e.caller ≡ c) × (count_of c (take r.m.taken r.m.log) < r.m.up c)
next_called k s r c lt is =
    let m = r.m in let t : ℕ = m.taken in let j : ℕ = count_of c (take t m.log) in
    let n = next k m c (lawful_of k s r) lt in let n1 = n.low in let n2 = n.high in let n3 = n.room in
    let low = ((lawful_of k s r).each c lt).low in
    let long = length-made_by c k.base m.log in
    let pos = r.bounded.some_cell in
    let d2 = (lawful_of k s r).replies_le in
    dite (dec_le (suc j) (m.got c + k.window))
    (λ inside. let near : InWindow k m c j = (lt, n1, inside) in let ok = r.each_cell c j near in
    dite (dec_le (suc j) (m.up c))
    (λ below. let x = some_at (made_by c k.base m.log) j (omega arith) in let f = call_at c k.base m.log j x.0.0 x.0.1 x.1 in
    let a : ℕ = f.0 in let num : x.0.0 ≡ k.base + a = f.2 in
    let later : t ≤ a = dite (dec_le t a) (λ le. le) (λ no. absurd (let e = early c k.base m.log j x.0.0 x.0.1 t x.1 (omega arith) in omega arith)) in
    let w = (ok.posted a x.0.1 below (x.1 ∙ ap (λ z. some (z, x.0.1)) num)).waits later in
    let st = w.0 in
    let same : a ≡ t = omega arith in
    (f.1, ap (get_elem? m.log) (sym same) ∙ f.3, f.4, below))
    (λ no. absurd (let i = (ok.idle (omega arith)).0 in omega arith)))
    (λ outside.
    let wrapped : j ≡ m.got c + k.window = omega arith in
    let near : InWindow k m c (m.got c) = (lt, omega arith, omega arith) in
    let ok = r.each_cell c (m.got c) near in
    let again : cell k c j ≡ cell k c (m.got c) = ap (cell k c) wrapped ∙ ap (λ z. c * k.window + z) (add-mod_right (m.got c) k.window) in
    let x = some_at (made_by c k.base m.log) (m.got c) (omega arith) in let f = call_at c k.base m.log (m.got c) x.0.0 x.0.1 x.1 in
    let a : ℕ = f.0 in let num : x.0.0 ≡ k.base + a = f.2 in
    let sooner : a < t = dite (dec_le (suc a) t) (λ le. le) (λ no. absurd (let e = late c k.base m.log (m.got c) x.0.0 x.0.1 t x.1 (omega arith) in omega arith)) in
    let p = ok.posted a x.0.1 (omega arith) (x.1 ∙ ap (λ z. some (z, x.0.1)) num) in
    let is' : get_or s.words (state_at (cell k c (m.got c))) 0 ≡ called (k.base + t) = ap (λ z. get_or s.words (state_at z) 0) (sym again) ∙ is in
    absurd (dite (dec_le (suc a) (length m.replies))
    (λ le. let y = some_at m.replies a le in let st = (p.answered y.0 y.1).0 in omega arith)
    (λ no. let st = (p.held (omega arith) sooner).0 in omega arith)))

-- the driver's seat alone changes
views_only : (k : Terms) (s : Desk) (r : IsRuled k s) (id : ℕ) (me : Holder) (i : ℕ) (d' : DriverView) → get_elem? s.views id ≡ some me.0 → me.0.role ≡ Driving → d'.seats ≡ r.d.seats → d'.ended ≡ r.d.ended → DriverOk k r.m d'
    → IsRuled k record { words = set s.words i (get_or s.words i 0); homes = s.homes; views = set s.views id (driving d' me.0) }
views_only k s r id me i d' there is seats ended ok = subst (λ ws. IsRuled k record { words = ws; homes = s.homes; views = set s.views id (driving d' me.0) }) (sym (set-get_or s.words i 0))
    (by_driver k s r id me there is s.words s.homes r.m d' seats ended refl refl r.tail r.done r.reached r.legal ok r.each_caller r.each_cell)

found_is : (x n c c' : ℕ) → found_if x n c ≡ c' + 1 → (x ≡ called n) × (c ≡ c')
found_is x n c c' e = dite (ℕ_discrete x (called n))
    (λ is. (is, let g : c + 1 ≡ c' + 1 = ap (λ b. cond b (c + 1) 0) (sym (eq-eqb x (called n) is)) ∙ e in omega arith))
    (λ ne. absurd (let g : 0 ≡ c' + 1 = ap (λ b. cond b (c + 1) 0) (sym (ne_eqb x (called n) ne)) ∙ e in omega arith))

scanning : (k : Terms) (s : Desk) (r : IsRuled k s) (id : ℕ) (me : Holder) (scan : List (ℕ × ℕ)) (c i : ℕ) → get_elem? s.views id ≡ some me.0 → me.0.role ≡ Driving → c < callers me.0.terms → i ≡ state_at (cell me.0.terms c (count_of c me.0.drives.taken))
    → IsRuled k record { words = set s.words i (get_or s.words i 0); homes = s.homes; views = set s.views id (driving (scanned scan (me.0.terms.base + length me.0.drives.taken) c (get_or s.words i 0) me.0.drives) me.0) }
scanning k s r id me scan c i there is lt i_is =
    let o = drive k s r id me.0 there is in let ok = o.ok in let m = r.m in
    let lt' : c < callers k = subst (λ t. c < callers t) o.terms lt in
    let at : i ≡ state_at (cell k c (count_of c (take m.taken m.log))) = i_is ∙ (λ t. state_at (cell (o.terms t) c (count_of c (ok.taken t)))) in
    let n : ℕ = me.0.terms.base + length me.0.drives.taken in
    let num : n ≡ k.base + m.taken = λ t. (o.terms t).base + o.taken t in
    let x : ℕ = get_or s.words i 0 in
    views_only k s r id me i (scanned scan n c x me.0.drives) there is o.seats o.ended record {
      taken = ok.taken;
      replies = ok.replies;
      done = ok.done;
      seats = ok.seats;
      idle = λ _. refl;
      found = λ c' e. let f = found_is x n c c' e in
          let g = next_called k s r c lt' (ap (λ z. get_or s.words z 0) (sym at) ∙ f.0 ∙ ap called num) in
          (g.0, g.1, g.2 ∙ f.1, subst (λ z. count_of z (take m.taken m.log) < m.up z) f.1 g.3, (spell g.0.call, refl));
    }

pub starts_at : (k : Terms) (slots id : ℕ) (me : Holder) (i : ℕ) → me.0.role ≡ Driving → 0 < callers me.0.terms → i ≡ state_at (cell me.0.terms 0 (count_of 0 me.0.drives.taken)) → Allows (IsRuled k) slots id me i (λ n. n) (Starts (step slots i 0 0 none) me)
starts_at k slots id me i is lt i_is s r _ there small = (driving (scanned [] (me.0.terms.base + length me.0.drives.taken) 0 (get_or s.words i 0) me.0.drives) me.0, keeps, tt, scanning k s r id me [] 0 i there is lt i_is, (refl, refl))

pub scans_at : (k : Terms) (slots id : ℕ) (me : Holder) (i : ℕ) → me.0.role ≡ Driving → length me.0.drives.scan < callers me.0.terms → i ≡ state_at (cell me.0.terms (length me.0.drives.scan) (count_of (length me.0.drives.scan) me.0.drives.taken))
    → Allows (IsRuled k) slots id me i (λ n. n) (Scans (step slots i 0 0 none) me)
scans_at k slots id me i is lt i_is s r _ there small =
    (driving (scanned me.0.drives.scan (me.0.terms.base + length me.0.drives.taken) (length me.0.drives.scan) (get_or s.words i 0) me.0.drives) me.0, keeps, tt, scanning k s r id me me.0.drives.scan (length me.0.drives.scan) i there is lt i_is, (refl, refl))

first_of_rest : (l rest : List ℕ) (call : Call) (n : ℕ) → l ++ rest ≡ spell call → length l ≡ n → n < 3 → (y : ℕ) × (more : List ℕ) × (get_elem? (spell call) n ≡ some y) × ((l ++ y ∷ []) ++ more ≡ spell call)
first_of_rest l [] call n e is lt = absurd (let a = ap length (sym (append-nil l) ∙ e) in omega arith)
first_of_rest l (y ∷ more) call n e is lt = (y, more, ap (λ z. get_elem? z n) (sym e) ∙ at_seam l y more n is, append_one l y more ∙ e)
  where
    at_seam : (l : List ℕ) (y : ℕ) (more : List ℕ) (n : ℕ) → length l ≡ n → get_elem? (l ++ y ∷ more) n ≡ some y
    at_seam [] y more zero e = refl
    at_seam [] y more (suc n) e = absurd (omega arith)
    at_seam (x ∷ l) y more zero e = absurd (omega arith)
    at_seam (x ∷ l) y more (suc n) e = at_seam l y more n (omega arith)

    append_one : (l : List ℕ) (y : ℕ) (more : List ℕ) → (l ++ y ∷ []) ++ more ≡ l ++ y ∷ more
    append_one [] y more = refl
    append_one (x ∷ l) y more = ap {B = List ℕ} (λ z. x ∷ z) (append_one l y more)

-- the call that the driver has found
pub record Here (k : Terms) (s : Desk) (r : IsRuled k s) (v : View) (c : ℕ) : Type 0 where
  pub entry_is : Entry
  pub there : get_elem? r.m.log r.m.taken ≡ some entry_is
  pub who_is : entry_is.caller ≡ c
  pub near : InWindow k r.m c (count_of c (take r.m.taken r.m.log))
  pub below : count_of c (take r.m.taken r.m.log) < r.m.up c
  pub number : get_elem? (made_by c k.base r.m.log) (count_of c (take r.m.taken r.m.log)) ≡ some (k.base + r.m.taken, entry_is.call)
  pub posted : Posted k.base r.m.taken r.m.replies s.words s.homes (cell k c (count_of c (take r.m.taken r.m.log))) r.m.taken entry_is.call
  pub left : List ℕ
  pub spelt : v.drives.loaded ++ left ≡ spell entry_is.call

pub here : (k : Terms) (s : Desk) (r : IsRuled k s) (v : View) (c : ℕ) → DriverOk k r.m v.drives → v.drives.found ≡ c + 1 → Here k s r v c
here k s r v c ok is =
    let m = r.m in let f = ok.found c is in
    let lt : c < callers k = subst (λ z. z < callers k) f.2 ((lawful_of k s r).placed m.taken f.0 f.1).0 in
    let n = next k m c (lawful_of k s r) lt in let n1 = n.low in let n3 = n.room in let below = f.3 in
    let j : ℕ = count_of c (take m.taken m.log) in
    let near : InWindow k m c j = (lt, n1, omega arith) in
    let num : get_elem? (made_by c k.base m.log) j ≡ some (k.base + m.taken, f.0.call) = subst (λ z. get_elem? (made_by z k.base m.log) (count_of z (take m.taken m.log)) ≡ some (k.base + m.taken, f.0.call)) f.2 (at_call k.base m.log m.taken f.0 f.1) in
    record { entry_is = f.0; there = f.1; who_is = f.2; near = near; below = below; number = num; posted = (r.each_cell c j near).posted m.taken f.0.call below num; left = f.4.0; spelt = f.4.1 }

pub reads_at : (k : Terms) (slots id : ℕ) (me : Holder) (i c : ℕ) → me.0.role ≡ Driving → me.0.drives.found ≡ c + 1 → length me.0.drives.loaded < 3 → i ≡ words_at (cell me.0.terms c (count_of c me.0.drives.taken)) + length me.0.drives.loaded
    → Allows (IsRuled k) slots id me i (λ n. n) (Reads (step slots i 0 0 none) me)
reads_at k slots id me i c is found short i_is s r _ there small =
    let o = drive k s r id me.0 there is in let ok = o.ok in let m = r.m in let d = me.0.drives in
    let at : i ≡ words_at (cell k c (count_of c (take m.taken m.log))) + length d.loaded = i_is ∙ (λ t. words_at (cell (o.terms t) c (count_of c (ok.taken t))) + length d.loaded) in
    let x : ℕ = get_or s.words i 0 in
    let h = here k s r me.0 c ok found in
    let f = first_of_rest d.loaded h.left h.entry_is.call (length d.loaded) h.spelt refl short in
    let x_is : x ≡ f.0 = ap (λ z. get_or s.words z 0) at ∙ h.posted.spelled (length d.loaded) f.0 f.2 in (
      driving (read x d) me.0,
      keeps,
      tt,
      views_only k s r id me i (read x d) there is o.seats o.ended record {
        taken = ok.taken;
        replies = ok.replies;
        done = ok.done;
        seats = ok.seats;
        idle = λ e. absurd (omega arith);
        found = λ c' e. let same : c ≡ c' = omega arith in
            (h.entry_is, h.there, h.who_is ∙ same, subst (λ z. count_of z (take m.taken m.log) < m.up z) same h.below, (f.1, ap (λ z. (d.loaded ++ z ∷ []) ++ f.1) x_is ∙ f.3));
      },
      (refl, refl),
    )
