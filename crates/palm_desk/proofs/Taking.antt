-- The driver takes a call, replies_for one, and finishes a batch.
use Rattle.palm_base.specs.Desk.{next as came}
use Rattle.palm_base.proofs.DeskLaws.{reached_lawful}
use Rattle.std.proofs.Common.{◌≡◌, ℕ, zero, suc, ◌+◌, ◌-◌, ◌*◌, ◌/◌, ◌^◌, ◌<◌, ◌≤◌, ◌≢◌, List, [], ◌∷◌, ◌++◌, length, get_or, slice_index, set, take, sym, refl, ap, ◌∙◌, subst, arith, length-set, length-append, get_or-set_other, get_or-set_same, None}
use mathlib.Core.Option.{none, some, some-injective, some-ne-none}
use lib.ListN.{get_elem?}
use lib.Seq.{length-take-le, take-take}
use Rattle.std.proofs.lemmas.List.{append-nil}
use Rattle.atomic_table.specs.Table.{step, keeps, takes, gives, Allows, put_back, rest}
use Rattle.atomic_table.proofs.Lists.{at_last, set_here, set_else}
use Rattle.palm_base.specs.declared.call.Call.{Call}
use Rattle.palm_base.specs.declared.call.Entry.{Entry}
use Rattle.palm_base.specs.declared.call.Reply.{Reply}
use Rattle.palm_base.specs.declared.desk.Terms.{Terms}
use Rattle.palm_base.specs.declared.desk.Event.TheVariants.{Take, Answer, Finish}
use Rattle.palm_base.specs.Arrivals.{count_of, made_by}
use Rattle.palm_base.specs.Desk.{Machine, Lawful}
use Rattle.palm_desk.specs.declared.views.Role.TheVariants.{Driving}
use Rattle.palm_desk.specs.Rule.{Desk, Homes, Holder, cell, state_at, words_at, Begins, CallerAt, InWindow, CellAt, IsRuled}
use Rattle.palm_base.proofs.Arrivals.{at_below, count_of-take, at_most}
use Rattle.palm_desk.proofs.Cells.{cell_in, begins_else, cell_else, word_one, state_word, state_state, not_first_state, state_within}
use Rattle.palm_base.proofs.Arrivals.{take_one}
use Rattle.palm_base.specs.Desk.{take_next, reply, finish}
use Rattle.palm_desk.specs.Views.{driving, took, replied, finished}
use Rattle.palm_desk.specs.Plays.{Takes, Answers, Finishes, front_reply}
use Rattle.palm_base.proofs.Arrivals.{at_call, one_number, count_of-take_one, one_same}
use Rattle.palm_desk.proofs.Cells.{cell_taken, cell_answered}
use Rattle.palm_desk.proofs.Stays.{lawful_of, each_but, caller_else, caller_finishes, by_driver}
use Rattle.palm_desk.proofs.Callers.{numbers}
use Rattle.std.proofs.Common.{drop, length-drop}
use Rattle.palm_desk.proofs.Scanning.{drive, here}
use Rattle.palm_base.specs.Desk.{callers}
use Rattle.palm_desk.specs.Views.{Slot}
use Rattle.palm_desk.specs.Views.{filled}
use Rattle.palm_desk.specs.Words.{spell}

nothing_left : (l rest : List ℕ) (call : Call) → l ++ rest ≡ spell call → length l ≡ 3 → l ≡ spell call
nothing_left l [] call e long = sym (append-nil l) ∙ e
nothing_left l (y ∷ more) call e long = absurd (let a = ap length e in let b = length-append l (y ∷ more) in omega arith)

cell_back : (q i : ℕ) → i ≡ state_at q → q ≡ (i - 2) / 4
cell_back q i e = omega arith

-- the state word of one cell changes, and the caller's views stay
words_else : (k : Terms) (s : Desk) (r : IsRuled k s) (i x q : ℕ) → i ≡ state_at q → (c : ℕ) → c < callers k → CallerAt k r.m (set s.words i x) c (r.who c)
words_else k s r i x q at c lt = let m = r.m in caller_else k m.log (m.up c) (m.got c) (m.given c) m.done s.words c (r.who c) i x (λ l lt' e. state_word q (cell k c (m.up c)) l lt' (e ∙ at)) (r.each_caller c lt)

-- the first call that isn't answered
at_taken : (t : ℕ) (a : List Entry) (p : ℕ) (e : Entry) → get_elem? (take t a) p ≡ some e → (p < t) × (get_elem? a p ≡ some e)
at_taken zero a p e at = absurd (some-ne-none e (sym at))
at_taken (suc t) [] p e at = absurd (some-ne-none e (sym at))
at_taken (suc t) (x ∷ a) zero e at = (omega arith, at)
at_taken (suc t) (x ∷ a) (suc p) e at = let r = at_taken t a p e at in (omega (arith, r.0), r.1)

count_of-drop : (c : ℕ) (a : List Entry) (p : ℕ) → count_of c (drop p a) + count_of c (take p a) ≡ count_of c a
count_of-drop c a zero = omega arith
count_of-drop c [] (suc p) = omega arith
count_of-drop c (x ∷ a) (suc p) = omega (arith, count_of-drop c a p)

at_drop : (a : List Entry) (p i : ℕ) (e : Entry) → get_elem? (drop p a) i ≡ some e → get_elem? a (p + i) ≡ some e
at_drop a zero i e at = ap (get_elem? a) (let g : 0 + i ≡ i = omega arith in g) ∙ at
at_drop [] (suc p) i e at = absurd (some-ne-none e (sym at))
at_drop (x ∷ a) (suc p) i e at = ap (get_elem? (x ∷ a)) (let g : suc p + i ≡ suc (p + i) = omega arith in g) ∙ at_drop a p i e at

-- no more calls wait for an answer than there are cells
pub unanswered : (k : Terms) (m : Machine) → Lawful k m → m.taken ≤ length m.replies + callers k * k.window
unanswered k m l =
    let r : ℕ = length m.replies in let t : ℕ = m.taken in
    let some_taken : List Entry = take t m.log in
    let waiting : List Entry = drop r some_taken in
    let long = length-take-le t m.log l.taken_le in
    let d = l.done_le in let le = l.replies_le in
    let few = at_most (callers k) k.window waiting (λ p e at. (l.placed (r + p) e (at_taken t m.log (r + p) e (at_drop some_taken r p e at)).1).0)
    (λ c lt. let s = l.each c lt in let posted = s.posted in let low = s.low in let room = s.room in let fin = s.finished in
    let grows = count_of-take c m.log m.done r d in
    let parts = count_of-drop c some_taken r in
    let front = ap (count_of c) (take-take r t m.log le) in
    omega arith) in
    let size = length-drop r some_taken in
    omega arith

pub takes_at : (k : Terms) (slots id : ℕ) (me : Holder) (i x c : ℕ) → me.0.role ≡ Driving → me.0.drives.found ≡ c + 1 → length me.0.drives.loaded ≡ 3 → i ≡ state_at (cell me.0.terms c (count_of c me.0.drives.taken))
    → x ≡ 4 * (me.0.terms.base + length me.0.drives.taken) + 2 → Allows (IsRuled k) slots id me i (λ _. x) (Takes (step slots i x 0 none) me)
takes_at k slots id me i x c is found full i_is x_is s r _ there small =
    let o = drive k s r id me.0 there is in let ok = o.ok in let m = r.m in let d = me.0.drives in
    let t : ℕ = m.taken in
    let j : ℕ = count_of c (take t m.log) in
    let q : ℕ = cell k c j in
    let pos = r.bounded.some_cell in
    let at : i ≡ state_at q = i_is ∙ (λ z. state_at (cell (o.terms z) c (count_of c (ok.taken z)))) in
    let value : x ≡ 4 * (k.base + t) + 2 = x_is ∙ (λ z. 4 * ((o.terms z).base + o.taken z) + 2) in
    let h = here k s r me.0 c ok found in
    let e = h.entry_is in
    let inside : q < callers k * k.window = cell_in k pos c j h.near.0 in
    let words' : List ℕ = set s.words i x in
    let homes' : Homes = set s.homes q none in
    let m' = take_next k m in
    let law = came m Take (e, h.there, subst (λ z. count_of z (take t m.log) < m.up z) (sym h.who_is) h.below) r.reached in
    let first = not_first_state q in
    let spelt = nothing_left d.loaded h.left e.call h.spelt full in
    let was = h.posted.waits (let g : t ≤ t = omega arith in g) in
    let now : get_or words' (state_at q) 0 ≡ x = ap (λ z. get_or (set s.words z x) (state_at q) 0) at ∙ get_or-set_same s.words (state_at q) x 0 (state_within q (callers k * k.window) (length s.words) inside r.wide) in
    let word_else : (q' l : ℕ) → l < 3 → words_at q' + l ≢ i = λ q' l lt e. state_word q q' l lt (e ∙ at) in
    let placed = (lawful_of k s r).placed t e h.there in (
      driving (took e d) me.0,
      takes q None,
      was.1,
      by_driver k s r id me there is words' homes' m' (took e d) o.seats o.ended (length-set s.words i x) (length-set s.homes q none)
          (get_or-set_other s.words i 0 x 0 (λ z. first.0 (z ∙ at)) ∙ r.tail) (get_or-set_other s.words i 1 x 0 (λ z. first.1 (z ∙ at)) ∙ r.done) law r.legal
          record {
            taken = ap (λ l. l ++ e ∷ []) ok.taken ∙ sym (take_one m.log t e h.there);
            replies = ok.replies;
            done = ok.done;
            seats = ok.seats;
            idle = λ _. refl;
            found = λ c' z. absurd (omega arith);
          }
          (words_else k s r i x q at)
          (each_but k pos m c j (λ a b. CellAt k m' (r.who a).back words' homes' a b) h.near
          record {
            idle = λ le. absurd (let z = h.below in omega arith);
            posted = λ a call' lt at'.
                let both = some-injective (k.base + t, e.call) (k.base + a, call') (sym h.number ∙ at') in
                let num : k.base + t ≡ k.base + a = ap (λ (y : ℕ × Call). y.0) both in
                record {
                  spelled = begins_else s.words (words_at q) (spell call') i x (λ l lt'. word_else q l lt') (subst (λ (y : ℕ × Call). Begins s.words (words_at q) (spell y.1)) both h.posted.spelled);
                  waits = λ le. absurd (omega arith);
                  held = λ ge lt'. (now ∙ value ∙ ap (λ z. 4 * z + 2) num, set_here s.homes q none (let wide = r.slots in omega arith));
                  answered = λ y at''. absurd (let lt' = at_below m.replies a y at'' in let d2 = (lawful_of k s r).replies_le in omega arith);
                };
          }
          (λ a b near apart. cell_else k.base (t + 1) m.replies (made_by a k.base m.log) (m.up a) (r.who a).back s.words s.homes (cell k a b) b i x homes' (λ z. state_state (cell k a b) q apart (sym (sym at ∙ z)))
          (λ l lt'. word_else (cell k a b) l lt') (set_else s.homes q (cell k a b) none apart)
          (cell_taken k.base t m.replies (made_by a k.base m.log) (m.up a) (r.who a).back s.words s.homes (cell k a b) b
          (λ n call' lt at' same. let one = one_number k.base m.log a c b j (k.base + t) call' e.call (at' ∙ ap (λ z. some (k.base + z, call')) same) h.number in apart (λ z. cell k (one.0 z) (one.1 z)))
          (r.each_cell a b near)))),
      (
        e,
        found ∙ ap (λ z. z + 1) (sym h.who_is),
        spelt,
        placed.1 ∙ (λ z. slice_index (sym o.terms z).firsts e.caller + count_of e.caller (sym ok.taken z)),
        (let few = numbers k s r in let below = at_below m.log t e h.there in let g : k.base + t + 1 < 2 ^ 62 = omega arith in subst (λ (z : Terms × ℕ). z.0.base + z.1 + 1 < 2 ^ 62) (λ z. (sym o.terms z, sym o.taken z)) g),
        (let q = h.below in let served = (lawful_of k s r).each c h.near.0 in let low = served.low in let quota = served.quota in let g : count_of c (take t m.log) + 1 ≤ k.quota = omega arith in
            subst (λ (z : ℕ × Terms × List Entry). count_of z.0 z.2 + 1 ≤ z.1.quota) (λ z. (sym h.who_is z, sym o.terms z, sym ok.taken z)) g),
        (let g : t + 1 ≤ length m.replies + callers k * k.window = unanswered k m' (reached_lawful k m' law) in subst (λ (z : Terms × ℕ × ℕ). z.1 + 1 ≤ z.2 + length z.0.firsts * z.0.window) (λ z. (sym o.terms z, sym o.taken z, sym o.replies z)) g),
        refl,
        ap (λ z. (z, None) ∷ me.1) (cell_back q i at),
        r.legal t e h.there,
      ),
    )

taken_twice : (p t : ℕ) (a : List Entry) → p ≤ t → take p (take t a) ≡ take p a
taken_twice p t a le = take-take p t a le

pub answers_at : (k : Terms) (slots id : ℕ) (me : Holder) (i x n q₀ : ℕ) (e : Entry) (y : Reply) → me.0.role ≡ Driving → get_elem? me.0.drives.taken (length me.0.drives.replies) ≡ some e
    → n ≡ me.0.terms.base + length me.0.drives.replies → q₀ ≡ cell me.0.terms e.caller (count_of e.caller (take (length me.0.drives.replies) me.0.drives.taken)) → i ≡ state_at q₀ → x ≡ 4 * n + 3
    → me.1 ≡ (q₀, filled n y) ∷ rest me.1 → Allows (IsRuled k) slots id me i (λ _. x) (λ _. Answers (step slots i x 0 none) me x)
answers_at k slots id me i x n q₀ e y is oldest n_is q_is i_is x_is carried s r _ there small =
    let o = drive k s r id me.0 there is in let ok = o.ok in let m = r.m in let d = me.0.drives in
    let p : ℕ = length m.replies in
    let c : ℕ = e.caller in
    let f = at_taken m.taken m.log p e ((λ z. get_elem? (sym ok.taken z) (sym o.replies z)) ∙ oldest) in
    let d1 = (lawful_of k s r).done_le in let d2 = (lawful_of k s r).replies_le in
    let j : ℕ = count_of c (take p m.log) in
    let q : ℕ = cell k c j in
    let pos = r.bounded.some_cell in
    let same_q : q₀ ≡ q = q_is ∙ (λ z. cell (o.terms z) c (count_of c (take (o.replies z) (ok.taken z)))) ∙ ap (λ l. cell k c (count_of c l)) (take-take p m.taken m.log d2) in
    let at : i ≡ state_at q = i_is ∙ ap state_at same_q in
    let num : n ≡ k.base + p = n_is ∙ (λ z. (o.terms z).base + o.replies z) in
    let lt : c < callers k = ((lawful_of k s r).placed p e f.1).0 in
    let served = (lawful_of k s r).each c lt in
    let one = count_of-take_one c m.log p e f.1 in let is_one = one_same e.caller c refl in
    let grows = count_of-take c m.log m.done p d1 in let grows' = count_of-take c m.log (p + 1) m.taken (let g = f.0 in omega arith) in
    let fin = served.finished in let posted = served.posted in let low = served.low in let room = served.room in
    let below : j < m.up c = omega arith in
    let near : InWindow k m c j = (lt, omega arith, omega arith) in
    let number : get_elem? (made_by c k.base m.log) j ≡ some (k.base + p, e.call) = at_call k.base m.log p e f.1 in
    let was = (r.each_cell c j near).posted p e.call below number in
    let inside : q < callers k * k.window = cell_in k pos c j lt in
    let words' : List ℕ = set s.words i x in
    let v : Slot = filled n y in
    let homes' : Homes = set s.homes q (some v) in
    let m' = reply k y m in
    let law = came m (Answer y) (let g : p < m.taken = f.0 in g) r.reached in
    let first = not_first_state q in
    let now : get_or words' (state_at q) 0 ≡ x = ap (λ z. get_or (set s.words z x) (state_at q) 0) at ∙ get_or-set_same s.words (state_at q) x 0 (state_within q (callers k * k.window) (length s.words) inside r.wide) in
    let word_else : (q' l : ℕ) → l < 3 → words_at q' + l ≢ i = λ q' l lt e. state_word q q' l lt (e ∙ at) in
    let longer = length-append m.replies (y ∷ []) in
    let back_home : put_back s.homes me.1 ≡ homes' = ap (put_back s.homes) carried ∙ ap (λ z. set s.homes z (some v)) same_q in
    let ruled : IsRuled k record { words = words'; homes = homes'; views = set s.views id (driving (replied y d) me.0) } =
    by_driver k s r id me there is words' homes' m' (replied y d) o.seats o.ended (length-set s.words i x) (length-set s.homes q (some v))
    (get_or-set_other s.words i 0 x 0 (λ z. first.0 (z ∙ at)) ∙ r.tail) (get_or-set_other s.words i 1 x 0 (λ z. first.1 (z ∙ at)) ∙ r.done) law r.legal
    record {
      taken = ok.taken;
      replies = ap (λ l. l ++ y ∷ []) ok.replies;
      done = ok.done;
      seats = ok.seats;
      idle = ok.idle;
      found = ok.found;
    }
    (words_else k s r i x q at)
    (each_but k pos m c j (λ a b. CellAt k m' (r.who a).back words' homes' a b) near
    record {
      idle = λ le. absurd (omega arith);
      posted = λ a call' lt' at'.
          let both = some-injective (k.base + p, e.call) (k.base + a, call') (sym number ∙ at') in
          let num' : k.base + p ≡ k.base + a = ap (λ (z : ℕ × Call). z.0) both in
          let p_a : p ≡ a = omega arith in
          record {
            spelled = begins_else s.words (words_at q) (spell call') i x (λ l lt'. word_else q l lt') (subst (λ (z : ℕ × Call). Begins s.words (words_at q) (spell z.1)) both was.spelled);
            waits = λ le. absurd (let g = f.0 in omega arith);
            held = λ ge lt''. absurd (omega arith);
            answered = λ y' at''.
                let y_is : y ≡ y' = some-injective y y' (sym (at_last m.replies y p refl) ∙ ap (get_elem? (m.replies ++ y ∷ [])) p_a ∙ at'') in
                (now ∙ x_is ∙ ap (λ z. 4 * z + 3) (num ∙ num'), set_here s.homes q (some v) (let wide = r.slots in omega arith) ∙ (λ z. some (some (filled ((num ∙ num') z) (y_is z)))));
          };
    }
    (λ a b near' apart. cell_else k.base m.taken m'.replies (made_by a k.base m.log) (m.up a) (r.who a).back s.words s.homes (cell k a b) b i x homes' (λ z. state_state (cell k a b) q apart (sym (sym at ∙ z)))
    (λ l lt'. word_else (cell k a b) l lt') (set_else s.homes q (cell k a b) (some v) apart)
    (cell_answered k.base m.taken m.replies (made_by a k.base m.log) (m.up a) (r.who a).back s.words s.homes (cell k a b) b y
    (λ l call' lt' at' same. let both = one_number k.base m.log a c b j (k.base + p) call' e.call (at' ∙ ap (λ z. some (k.base + z, call')) same) number in apart (λ z. cell k (both.0 z) (both.1 z)))
    (r.each_cell a b near'))))
    in (
      driving (replied y d) me.0,
      gives,
      tt,
      subst (λ hs. IsRuled k record { words = words'; homes = hs; views = set s.views id (driving (replied y d) me.0) }) (sym back_home) ruled,
      ((λ y' front. ap (λ z. driving (replied z d) me.0) (some-injective y y' (sym (ap front_reply carried) ∙ front))), refl),
    )

pub finishes_at : (k : Terms) (slots id : ℕ) (me : Holder) (x : ℕ) → me.0.role ≡ Driving → x ≡ me.0.terms.base + length me.0.drives.replies → Allows (IsRuled k) slots id me 1 (λ _. x) (λ _. Finishes (step slots 1 x 0 none) me x)
finishes_at k slots id me x is x_is s r _ there small =
    let o = drive k s r id me.0 there is in let ok = o.ok in let m = r.m in let d = me.0.drives in
    let m' = finish k m in
    let law = came m Finish tt r.reached in
    let wide = r.wide in
    let d1 = (lawful_of k s r).done_le in (
      driving (finished d) me.0,
      keeps,
      tt,
      by_driver k s r id me there is (set s.words 1 x) s.homes m' (finished d) o.seats o.ended (length-set s.words 1 x) refl
          (get_or-set_other s.words 1 0 x 0 (λ e. omega arith) ∙ r.tail) (get_or-set_same s.words 1 x 0 (let b : 1 < length s.words = omega arith in b) ∙ x_is ∙ (λ z. (o.terms z).base + o.replies z)) law r.legal
          record { taken = ok.taken; replies = ok.replies; done = o.replies; seats = ok.seats; idle = ok.idle; found = ok.found }
          (λ c lt. caller_else k m.log (m.up c) (m.got c) (m.given c) m'.done s.words c (r.who c) 1 x (λ n lt'. word_one (cell k c (m.up c)) n)
          (caller_finishes k m.log (m.up c) (m.got c) (m.given c) m.done s.words c (r.who c) m'.done d1 (r.each_caller c lt)))
          (λ a b near. cell_else k.base m.taken m.replies (made_by a k.base m.log) (m.up a) (r.who a).back s.words s.homes (cell k a b) b 1 x s.homes (λ e. omega arith) (λ n lt. word_one (cell k a b) n) refl (r.each_cell a b near)),
      (refl, refl),
    )
