-- A desk's history keeps the calls of each caller in the order in which they were made.
use Rattle.std.proofs.Common.{◌≡◌, ℕ, zero, suc, ◌+◌, ◌==◌, ◌<◌, ◌≢◌, cond, List, [], ◌∷◌, ◌++◌, length, map, get_or, slice_index, sym, refl, ap, ◌∙◌, subst, arith, eq-eqb, ne_eqb}
use Rattle.std.specs.List.{range_with_len}
use mathlib.Core.Logic.{dite}
use mathlib.Core.Option.{some, some-injective, some-ne-none}
use native.Mathlib.Decide.{ℕ_discrete}
use lib.ListN.{get_elem?, length-map}
use Rattle.std.proofs.lemmas.List.{append-nil}
use Rattle.std.proofs.lemmas.List.Elements.{filter-append}
use Rattle.std.proofs.lemmas.List.FromFn.{length-range_with_len, get_or-range_with_len}
use Rattle.palm_base.specs.Arrivals.{entry, count_of}
use Rattle.palm_base.specs.Desk.{Machine, opened, callers, next_entry, arrive, after, after_all, calls_in, all_calls_in, DeskKeepsOrder}
use Rattle.palm_base.specs.History.{entries_of, numbered}
use Rattle.palm_base.specs.declared.call.Call.{Call}
use Rattle.palm_base.specs.declared.call.Entry.{Entry}
use Rattle.palm_base.specs.declared.desk.Terms.{Terms}
use Rattle.palm_base.specs.declared.desk.Event.{Event}
use Rattle.palm_base.specs.declared.desk.Event.TheVariants.{Arrive, Post, Take, Answer, Finish, Collect}
use Rattle.palm_base.proofs.Arrivals.{some_at, one_same, one_other, count_of-snoc}
use Rattle.palm_base.proofs.DeskLaws.{always}

-- The entries of a caller, where one more call of it, or of another, has arrived.
own_more : (c : ℕ) (a : List Entry) (e : Entry) → e.caller ≡ c → entries_of c (a ++ e ∷ []) ≡ entries_of c a ++ e ∷ []
own_more c a e is =
    filter-append (λ entry. entry.caller == c) a (e ∷ [])
    ∙ ap (λ b. entries_of c a ++ cond b (e ∷ []) []) (eq-eqb e.caller c is)

other_more : (c : ℕ) (a : List Entry) (e : Entry) → e.caller ≢ c → entries_of c (a ++ e ∷ []) ≡ entries_of c a
other_more c a e ne =
    filter-append (λ entry. entry.caller == c) a (e ∷ [])
    ∙ ap (λ b. entries_of c a ++ cond b (e ∷ []) []) (ne_eqb e.caller c ne) ∙ append-nil (entries_of c a)

put_first : (a : List Entry) (e : Entry) (b : List Entry) → (a ++ e ∷ []) ++ b ≡ a ++ e ∷ b
put_first [] e b = refl
put_first (x ∷ a) e b = ap {B = List Entry} (λ l. x ∷ l) (put_first a e b)

-- What is still to come of a caller's calls stands behind those that are there.
module _ (k : Terms) (c : ℕ) where
  abbrev still : Machine → List Call → List Entry
  still m calls = entries_of c m.log ++ numbered c (slice_index k.firsts c + count_of c m.log) calls

  arrive_own : (m : Machine) (d : ℕ) (call : Call) (calls : List Call) → d ≡ c → still (arrive k d call m) calls ≡ still m (call ∷ calls)
  arrive_own m d call calls is =
      let e = next_entry k m d call in
      let place : ℕ = slice_index k.firsts c + count_of c m.log in
      let next : slice_index k.firsts c + count_of c (m.log ++ e ∷ []) ≡ place + 1 = omega (arith, count_of-snoc c m.log e, one_same d c is) in
      let same : e ≡ entry c place call = ap (λ i. entry i (slice_index k.firsts i + count_of i m.log) call) is in
      (λ i. own_more c m.log e is i ++ numbered c (next i) calls)
      ∙ put_first (entries_of c m.log) e (numbered c (place + 1) calls)
      ∙ ap (λ x. entries_of c m.log ++ x ∷ numbered c (place + 1) calls) same

  arrive_other : (m : Machine) (d : ℕ) (call : Call) (calls : List Call) → d ≢ c → still (arrive k d call m) calls ≡ still m calls
  arrive_other m d call calls ne =
      let e = next_entry k m d call in
      let same : slice_index k.firsts c + count_of c (m.log ++ e ∷ []) ≡ slice_index k.firsts c + count_of c m.log =
      omega (arith, count_of-snoc c m.log e, one_other d c ne) in
      λ i. other_more c m.log e ne i ++ numbered c (same i) calls

  kept_from : (m : Machine) (events : List Event) → entries_of c (after_all k m events).log ≡ still m (calls_in c events)
  kept_from m [] = sym (append-nil (entries_of c m.log))
  kept_from m (Arrive d call ∷ events) =
      let rest = kept_from (arrive k d call m) events in
      let calls = calls_in c events in
      dite (ℕ_discrete d c)
      (λ is. rest ∙ arrive_own m d call calls is ∙ ap (λ b. still m (cond b (call ∷ calls) calls)) (sym (eq-eqb d c is)))
      (λ ne. rest ∙ arrive_other m d call calls ne ∙ ap (λ b. still m (cond b (call ∷ calls) calls)) (sym (ne_eqb d c ne)))
  kept_from m (Post d ∷ events) = kept_from (after k m (Post d)) events
  kept_from m (Take ∷ events) = kept_from (after k m Take) events
  kept_from m (Answer r ∷ events) = kept_from (after k m (Answer r)) events
  kept_from m (Finish ∷ events) = kept_from (after k m Finish) events
  kept_from m (Collect d ∷ events) = kept_from (after k m (Collect d)) events

-- A function of the numbers below n, as a list.
get_or-map : {A : Type 0} (f : ℕ → A) (l : List ℕ) (i x : ℕ) (d : A) → i < length l → get_or (map f l) i d ≡ f (get_or l i x)
get_or-map f [] i x d lt = absurd (omega arith)
get_or-map f (y ∷ l) zero x d lt = refl
get_or-map f (y ∷ l) (suc i) x d lt = get_or-map f l i x d (omega arith)

pub desks_keep_order : DeskKeepsOrder
desks_keep_order k events may =
    let n : ℕ = callers k in
    let log : List Entry = (after_all k opened events).log in
    let long : length (all_calls_in n events) ≡ n = length-map (range_with_len 0 n) (λ c. calls_in c events) ∙ length-range_with_len 0 n in
    let placed = (always k events may).placed in
    let whole = length-range_with_len 0 n in
    record {
      callers = λ i e lt. let x = some_at log i lt in
          subst (λ y. y < length (all_calls_in n events)) (ap (λ (z : Entry). z.caller) (there log i x.0 e x.1)) (omega (arith, (placed i x.0 x.1).0, long));
      calls = λ c lt.
          let own : get_or (all_calls_in n events) c [] ≡ calls_in c events =
          get_or-map (λ c. calls_in c events) (range_with_len 0 n) c 0 [] (omega arith) ∙ ap (λ i. calls_in i events) (get_or-range_with_len 0 n c 0 (omega arith) ∙ (let g : 0 + c ≡ c = omega arith in g)) in
          kept_from k c opened events
          ∙ (λ i. numbered c ((let g : slice_index k.firsts c + 0 ≡ slice_index k.firsts c = omega arith in g) i) (sym own i));
    }
  where
    there : (l : List Entry) (i : ℕ) (x d : Entry) → get_elem? l i ≡ some x → x ≡ get_or l i d
    there [] i x d at = absurd (some-ne-none x (sym at))
    there (y ∷ l) zero x d at = sym (some-injective y x at)
    there (y ∷ l) (suc i) x d at = there l i x d at
