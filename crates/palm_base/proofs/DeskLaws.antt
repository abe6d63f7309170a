-- Each event keeps the desk lawful.
use Rattle.std.proofs.Common.{◌≡◌, ℕ, zero, suc, ◌+◌, ◌<◌, ◌≤◌, ◌≢◌, cond, List, [], ◌∷◌, ◌++◌, length, take, slice_index, sym, refl, ap, ◌∙◌, subst, arith, length-append, eq-eqb, ne_eqb, inl, inr, ⊎_elim, ◌⊎◌}
use mathlib.Core.Option.{some, some-injective, some-ne-none}
use mathlib.Core.Logic.{dite}
use native.Mathlib.Decide.{ℕ_discrete}
use lib.ListN.{get_elem?}
use Rattle.palm_base.specs.declared.call.Call.{Call}
use Rattle.palm_base.specs.declared.call.Entry.{Entry}
use Rattle.palm_base.specs.declared.call.Reply.{Reply}
use Rattle.palm_base.specs.declared.desk.Terms.{Terms}
use Rattle.palm_base.specs.declared.desk.Event.{Event}
use Rattle.palm_base.specs.declared.desk.Event.TheVariants.{Arrive, Post, Take, Answer, Finish, Collect}
use Rattle.palm_base.specs.Arrivals.{count_of, replies_for}
use Rattle.palm_base.specs.Desk.{Machine, opened, put, next_entry, arrive, post, take_next, reply, finish, collect, May, after, MayAll, after_all, Lawful, Reached, start, next}
use Rattle.palm_base.proofs.Arrivals.{at_below, one_same, one_other, count_of-snoc, count_of-take_one, count_of-take, take_more, length-replies_for, replies_for-arrive, replies_for-reply}

-- what holds of x at c, and of each other value of f, holds of the new values
pub at_put : {A : Type 0} (f : ℕ → A) (c : ℕ) (x : A) (P : ℕ → A → Type 0) (j : ℕ) → (j ≡ c → P j x) → (j ≢ c → P j (f j)) → P j (put f c x j)
at_put f c x P j here other = dite (ℕ_discrete j c) (λ e. subst (λ b. P j (cond b x (f j))) (sym (eq-eqb j c e)) (here e)) (λ ne. subst (λ b. P j (cond b x (f j))) (sym (ne_eqb j c ne)) (other ne))

-- the entry of a longer history is one that was there, or the new one
pub at_longer_log : (a : List Entry) (x e : Entry) (p : ℕ) → get_elem? (a ++ x ∷ []) p ≡ some e → ((p < length a) × (get_elem? a p ≡ some e)) ⊎ ((p ≡ length a) × (x ≡ e))
at_longer_log [] x e zero at = inr (refl, some-injective x e at)
at_longer_log [] x e (suc p) at = absurd (some-ne-none e (sym at))
at_longer_log (y ∷ a) x e zero at = inl (omega arith, at)
at_longer_log (y ∷ a) x e (suc p) at = ⊎_elim (λ (h : (p < length a) × (get_elem? a p ≡ some e)). inl (omega arith, h.1)) (λ (h : (p ≡ length a) × (x ≡ e)). inr (ap suc h.0, h.1)) (at_longer_log a x e p at)

pub take_here : {A : Type 0} (a b : List A) → take (length a) (a ++ b) ≡ a
take_here [] b = refl
take_here {A} (x ∷ a) b = ap {B = List A} (λ l. x ∷ l) (take_here a b)

module _ (k : Terms) where
  pub arrives : (m : Machine) (c : ℕ) (call : Call) → May k m (Arrive c call) → Lawful k m → Lawful k (arrive k c call m)
  arrives m c call may l =
      let e = next_entry k m c call in
      let log' = m.log ++ e ∷ [] in
      let longer = length-append m.log (e ∷ []) in
      let d = l.done_le in let r = l.replies_le in let t = l.taken_le in
      record {
        done_le = l.done_le;
        replies_le = l.replies_le;
        taken_le = omega arith;
        placed = λ p x at. ⊎_elim
            (λ (h : (p < length m.log) × (get_elem? m.log p ≡ some x)). let was = l.placed p x h.1 in
            (was.0, was.1 ∙ ap (λ a. slice_index k.firsts x.caller + count_of x.caller a) (sym (take_more m.log (e ∷ []) p (omega (arith, h.0))))))
            (λ (h : (p ≡ length m.log) × (e ≡ x)). subst (λ (y : ℕ × Entry). (y.1.caller < length k.firsts) × (y.1.place ≡ slice_index k.firsts y.1.caller + count_of y.1.caller (take y.0 log'))) (λ i. (sym h.0 i, h.1 i))
            (may.0, ap (λ a. slice_index k.firsts c + count_of c a) (sym (take_here m.log (e ∷ [])))))
            (at_longer_log m.log e x p at);
        each = λ j lt. let s = l.each j lt in
            let more = count_of-snoc j m.log e in
            let same : take m.taken log' ≡ take m.taken m.log = take_more m.log (e ∷ []) m.taken t in
            let same' : take m.done log' ≡ take m.done m.log = take_more m.log (e ∷ []) m.done (omega arith) in
            let low = s.low in let high = s.high in let quota = s.quota in let room = s.room in
            let up : m.up c ≡ count_of c m.log = may.1 in let fits = may.2 in let some_left = may.3 in
            let given : m.given j ≡ take (m.got j) (replies_for j k.base log' m.replies) = s.given ∙ ap (take (m.got j)) (sym (replies_for-arrive j k.base m.log m.replies e (omega arith))) in
            let posted = subst (λ a. count_of j a ≤ m.up j) (sym same) s.posted in
            let finished = subst (λ a. m.got j ≤ count_of j a) (sym same') s.finished in
            dite (ℕ_discrete j c)
            (λ is. let one = one_same c j (sym is) in let up' = subst (λ i. m.up i ≡ count_of i m.log) (sym is) up in let fits' = subst (λ i. count_of i m.log < m.got i + k.window) (sym is) fits in
            let left' = subst (λ i. count_of i m.log < k.quota) (sym is) some_left in
            record { low = omega arith; high = omega arith; quota = omega arith; room = omega arith; posted = posted; finished = finished; given = given })
            (λ ne. let none_more = one_other c j (λ is. ne (sym is)) in
            record { low = omega arith; high = omega arith; quota = omega arith; room = omega arith; posted = posted; finished = finished; given = given });
      }

  pub posts : (m : Machine) (c : ℕ) → May k m (Post c) → Lawful k m → Lawful k (post k c m)
  posts m c may l = record {
    done_le = l.done_le;
    replies_le = l.replies_le;
    taken_le = l.taken_le;
    placed = l.placed;
    each = λ j lt. let s = l.each j lt in let low = s.low in let high = s.high in let posted = s.posted in
        let n = at_put m.up c (m.up c + 1) (λ i u. (m.up i ≤ u) × (u ≤ count_of i m.log)) j (λ is. subst (λ i. (m.up i ≤ m.up c + 1) × (m.up c + 1 ≤ count_of i m.log)) (sym is) (omega arith, omega (arith, may.1))) (λ _. (omega arith, low)) in
        record { low = n.1; high = omega (arith, n.0); quota = s.quota; room = s.room; posted = omega (arith, n.0); finished = s.finished; given = s.given };
  }

  pub takes_next : (m : Machine) → May k m Take → Lawful k m → Lawful k (take_next k m)
  takes_next m (e, at, there) l = let r = l.replies_le in record {
    done_le = l.done_le;
    replies_le = omega arith;
    taken_le = omega (arith, at_below m.log m.taken e at);
    placed = l.placed;
    each = λ j lt. let s = l.each j lt in let posted = s.posted in let more = count_of-take_one j m.log m.taken e at in record {
      low = s.low;
      high = s.high;
      quota = s.quota;
      room = s.room;
      posted = dite (ℕ_discrete e.caller j) (λ is. let g = subst (λ i. count_of i (take m.taken m.log) < m.up i) is there in omega (arith, one_same e.caller j is)) (λ ne. omega (arith, one_other e.caller j ne));
      finished = s.finished;
      given = s.given;
    };
  }

  pub replies : (m : Machine) (r : Reply) → May k m (Answer r) → Lawful k m → Lawful k (reply k r m)
  replies m r may l = let longer = length-append m.replies (r ∷ []) in let d = l.done_le in let t = l.taken_le in let lt' : length m.replies < m.taken = may in record {
    done_le = omega arith;
    replies_le = omega arith;
    taken_le = l.taken_le;
    placed = l.placed;
    each = λ j lt. let s = l.each j lt in let more = replies_for-reply j k.base m.log m.replies r in
        let long = length-replies_for j k.base m.log m.replies (omega arith) in
        let finished = s.finished in
        let grows = count_of-take j m.log m.done (length m.replies) d in
        record {
          low = s.low;
          high = s.high;
          quota = s.quota;
          room = s.room;
          posted = s.posted;
          finished = s.finished;
          given = s.given ∙ sym (ap (take (m.got j)) more.1 ∙ take_more (replies_for j k.base m.log m.replies) more.0 (m.got j) (omega arith));
        };
  }

  pub finishes : (m : Machine) → Lawful k m → Lawful k (finish k m)
  finishes m l = let d = l.done_le in record {
    done_le = omega arith;
    replies_le = l.replies_le;
    taken_le = l.taken_le;
    placed = l.placed;
    each = λ j lt. let s = l.each j lt in let finished = s.finished in let grows = count_of-take j m.log m.done (length m.replies) d in
        record { low = s.low; high = s.high; quota = s.quota; room = s.room; posted = s.posted; finished = omega arith; given = s.given };
  }

  pub collects : (m : Machine) (c : ℕ) → May k m (Collect c) → Lawful k m → Lawful k (collect k c m)
  collects m c may l = record {
    done_le = l.done_le;
    replies_le = l.replies_le;
    taken_le = l.taken_le;
    placed = l.placed;
    each = λ j lt. let s = l.each j lt in let room = s.room in let finished = s.finished in
        let n = at_put m.got c (m.got c + 1) (λ i u. (m.got i ≤ u) × (u ≤ count_of i (take m.done m.log))) j
        (λ is. subst (λ i. (m.got i ≤ m.got c + 1) × (m.got c + 1 ≤ count_of i (take m.done m.log))) (sym is) (omega arith, omega (arith, may.1))) (λ _. (omega arith, finished)) in
        record {
          low = s.low;
          high = s.high;
          quota = s.quota;
          room = omega (arith, n.0);
          posted = s.posted;
          finished = n.1;
          given = dite (ℕ_discrete j c)
              (λ is. subst (λ i. put m.given c (take (m.got c + 1) (replies_for c k.base m.log m.replies)) i ≡ take (put m.got c (m.got c + 1) i) (replies_for i k.base m.log m.replies)) (sym is)
              (ap (λ b. cond b (take (m.got c + 1) (replies_for c k.base m.log m.replies)) (m.given c)) (eq-eqb c c refl) ∙ sym (ap (λ b. take (cond b (m.got c + 1) (m.got c)) (replies_for c k.base m.log m.replies)) (eq-eqb c c refl))))
              (λ ne. ap (λ b. cond b (take (m.got c + 1) (replies_for c k.base m.log m.replies)) (m.given j)) (ne_eqb j c ne) ∙ s.given ∙ sym (ap (λ b. take (cond b (m.got c + 1) (m.got j)) (replies_for j k.base m.log m.replies)) (ne_eqb j c ne)));
        };
  }

  keeps : (m : Machine) (e : Event) → May k m e → Lawful k m → Lawful k (after k m e)
  keeps m (Arrive c call) may l = arrives m c call may l
  keeps m (Post c) may l = posts m c may l
  keeps m Take may l = takes_next m may l
  keeps m (Answer r) may l = replies m r may l
  keeps m Finish may l = finishes m l
  keeps m (Collect c) may l = collects m c may l

  keeps_all : (m : Machine) (es : List Event) → MayAll k m es → Lawful k m → Lawful k (after_all k m es)
  keeps_all m [] may l = l
  keeps_all m (e ∷ es) may l = keeps_all (after k m e) es may.1 (keeps m e may.0 l)

  pub open_lawful : Lawful k opened
  open_lawful = record {
    done_le = omega arith;
    replies_le = omega arith;
    taken_le = omega arith;
    placed = λ p e at. absurd (some-ne-none e (sym at));
    each = λ c lt. record { low = omega arith; high = omega arith; quota = omega arith; room = omega arith; posted = omega arith; finished = omega arith; given = refl };
  }

  pub always : (es : List Event) → MayAll k opened es → Lawful k (after_all k opened es)
  always es may = keeps_all opened es may open_lawful

pub reached_lawful : (k : Terms) (m : Machine) → Reached k m → Lawful k m
reached_lawful k m start = open_lawful k
reached_lawful k m (next m' e may r) = keeps k m' e may (reached_lawful k m' r)
