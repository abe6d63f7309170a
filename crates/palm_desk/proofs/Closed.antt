-- A desk is closed: what is left of it can be put in order, and is what a closed desk gives back.
use Rattle.std.proofs.Common.{◌≡◌, ℕ, zero, suc, ◌+◌, ◌*◌, ◌<◌, ◌≤◌, ◌^◌, List, [], ◌∷◌, ◌++◌, length, get_or, take, drop, slice_index, sym, refl, ap, ◌∙◌, subst, arith, Contains}
use Rattle.std.specs.Prelude.{Any, vec_capacity}
use mathlib.Core.Option.{some}
use lib.ListN.{get_elem?}
use Rattle.std.proofs.lemmas.List.{take_all, take-append-le}
use Rattle.atomic_table.specs.Seated.{TableId}
use Rattle.atomic_table.specs.Table.{Final, Seen}
use Rattle.palm_base.specs.Arrivals.{count_of, made_by, replies_for}
use Rattle.palm_base.specs.Desk.{Placed, callers}
use Rattle.palm_base.specs.declared.desk.Terms.{Terms}
use Rattle.palm_base.proofs.Arrivals.{at_below, length-made_by}
use Rattle.palm_desk.specs.Closing.{IsClosed, history}
use Rattle.palm_desk.specs.Holding.{DriverIsReady}
use Rattle.palm_desk.specs.Joining.{AllJoined, CountsOf, view_of}
use Rattle.palm_desk.specs.Leftovers.{End, HasRoomLeft, IsEnd, IsStart, RepliesStand, unread_to, waiting_to}
use Rattle.palm_desk.specs.Rule.{Holder, IsRuled}
use Rattle.palm_desk.specs.Seats.{CallerState, DriverState, driver_state}
use Rattle.palm_desk.specs.Views.{Slot}
use Rattle.palm_desk.specs.declared.driver.Left.{Left}
use Rattle.palm_desk.specs.declared.rest.Rest.{Rest}
use Rattle.palm_desk.specs.declared.views.Role.TheVariants.{Driving}
use Rattle.palm_desk.specs.declared.views.View.{View}
use Rattle.palm_desk.proofs.Closes.{AllKnow, at_of, of_at, history_is, unread_is}
use Rattle.palm_desk.proofs.Finals.{EachEnded, Ends, end_of, ends}

-- The item at a place within a list.
at_item : {A : Type 0} (l : List A) (i : ℕ) (d : A) → i < length l → get_elem? l i ≡ some (get_or l i d)
at_item [] i d lt = absurd (omega arith)
at_item (x ∷ l) zero d lt = refl
at_item (x ∷ l) (suc i) d lt = at_item l i d (omega arith)

-- A list that is written over by one as long is that one.
pub written_over : (n : ℕ) (xs l : List ℕ) → length xs ≡ n → take n (xs ++ drop (length xs) l) ≡ xs
written_over n xs l long = take-append-le n xs (drop (length xs) l) (omega arith) ∙ take_all n xs (omega arith)

module _ (words : ℕ) (me : Holder) (base window many taken answered : ℕ) (firsts counts order : List ℕ) (r : DriverIsReady words me base window many taken answered firsts counts order)
    (k : Terms) (w : View) (seats : List CallerState) (joined : AllJoined me.0 w seats) (each : (c : ℕ) → c < callers k → Any (λ s. s.caller ≡ c) seats)
    (id : ℕ) (ws : List ℕ) (xs : List Slot) (final : Final (Seen (IsRuled k) id w) ws xs) where
  -- the view at the end is the driver's, and shows which views it has taken in
  role_is : w.role ≡ Driving
  role_is = ap (λ (v : View). v.role) joined.1 ∙ r.role

  ended_is : w.drives.ended ≡ joined.0
  ended_is = ap (λ (v : View). v.drives.ended) joined.1

  -- the driver has taken in the view of each seat
  view_in : (i : ℕ) (s : CallerState) → get_elem? seats i ≡ some s → (back : ℕ) × Contains w.drives.ended (view_of s back)
  view_in i s at =
      let j = joined.2 i s (at_below seats i s at) in
      (j.0, subst (λ l. Contains l (view_of s j.0)) (sym ended_is) (subst (λ (y : CallerState). Contains joined.0 (view_of y j.0)) (of_at seats i s at) j.1))

  -- each caller's seat is among these
  each_ended : EachEnded k w
  each_ended c lt =
      let y = each c lt in
      let v = view_in y.0 y.1 (at_of seats y.0 y.1 y.2 y.3) in
      (view_of y.1 v.0, v.1, y.4, refl)

  -- what the closed table shows
  pub the_ends : Ends k w ws xs
  the_ends = ends k id w ws xs role_is each_ended final

  abbrev pub the_end : End
  the_end = end_of k w the_ends.log the_ends.got

  -- what the seats know of it
  all_know : AllKnow the_end seats
  all_know = record {
    each = each;
    collected = λ i s at. let v = view_in i s at in the_ends.collected (view_of s v.0) v.1;
    got = λ i s at. let v = view_in i s at in the_ends.got_are (view_of s v.0) v.1;
  }

  -- the terms, and with them how many callers and cells there are
  terms_are : me.0.terms ≡ k
  terms_are = sym (ap (λ (v : View). v.terms) joined.1) ∙ the_ends.terms

  many_are : many ≡ callers k
  many_are = sym r.many ∙ ap callers terms_are

  window_is : window ≡ k.window
  window_is = sym r.window_is ∙ ap (λ (t : Terms). t.window) terms_are

  -- what is left can be put in order
  pub start : (left₀ left : Left) (firsts' ws' : List ℕ) → HasRoomLeft many (many * window) left₀ → firsts' ≡ firsts → ws' ≡ ws → (got made : List ℕ) → CountsOf seats got made → left.got.items ≡ got → left.made.items ≡ made
      → length got ≡ length left₀.got.items → length made ≡ length left₀.made.items → left.slots.items ≡ xs → left.waiting ≡ left₀.waiting → left.unread ≡ left₀.unread
      → IsStart the_end ws' firsts' window (base + answered) left
  start left₀ left firsts' ws' room firsts_is ws_is got made counts_of got_is made_is got_long made_long slots_is waiting_is unread_is' =
      let cells : many * window ≡ callers k * k.window = λ t. many_are t * window_is t in
      let base_is : base ≡ k.base = sym r.base_is ∙ ap (λ (t : Terms). t.base) terms_are in
      let answered_is : answered ≡ length w.drives.replies = sym r.answered_is ∙ ap (λ (v : View). length v.drives.replies) (sym joined.1) in
      record {
        at_end = subst (IsEnd the_end) (sym ws_is) the_ends.at_end;
        firsts_are = firsts_is ∙ sym r.firsts_are ∙ ap (λ (t : Terms). t.firsts) terms_are;
        firsts_small = λ c. subst (λ l. slice_index l c ≤ 2 ^ 61) (sym firsts_is) (r.firsts_small c);
        window_is = window_is;
        number = λ t. base_is t + answered_is t;
        got_long = ap length got_is ∙ got_long ∙ room.got ∙ many_are;
        made_long = ap length made_is ∙ made_long ∙ room.made ∙ many_are;
        got_are = λ c lt.
            let y = each c lt in let n = counts_of y.0 y.1 y.2 in
            let who : n.0.caller ≡ c = n.2 ∙ ap (λ (s : CallerState). s.caller) y.3 ∙ y.4 in
            let at = at_of seats n.1.0 n.0 n.1.1 n.1.2 in
            ap (λ l. slice_index l c) got_is ∙ ap (slice_index got) (sym who) ∙ n.3 ∙ all_know.got n.1.0 n.0 at ∙ ap the_ends.got who;
        made_are = λ c lt.
            let y = each c lt in let n = counts_of y.0 y.1 y.2 in
            let who : n.0.caller ≡ c = n.2 ∙ ap (λ (s : CallerState). s.caller) y.3 ∙ y.4 in
            let v = view_in n.1.0 n.0 (at_of seats n.1.0 n.0 n.1.1 n.1.2) in
            ap (λ l. slice_index l c) made_is ∙ ap (slice_index made) (sym who) ∙ n.4 ∙ ap length (the_ends.made (view_of n.0 v.0) v.1) ∙ length-made_by n.0.caller k.base the_ends.log ∙ ap (λ z. count_of z the_ends.log) who;
        slots_many = ap length slots_is ∙ the_ends.many;
        replies = subst (RepliesStand the_end 0) (sym slots_is) the_ends.replies;
        waiting = ap (λ v. v.items) waiting_is ∙ room.waiting;
        unread = ap (λ v. v.items) unread_is' ∙ room.unread;
        waiting_room = subst (λ v. callers k * k.window ≤ vec_capacity v) (sym waiting_is) (subst (λ n. n ≤ vec_capacity left₀.waiting) cells room.waiting_room);
        unread_room = subst (λ v. callers k * k.window ≤ vec_capacity v) (sym unread_is') (subst (λ n. n ≤ vec_capacity left₀.unread) cells room.unread_room);
      }

  -- what is given back is the rest of a closed desk
  pub closed : (table : TableId) (d : DriverState) (rest : Rest) → driver_state table me.0 ≡ d → rest.waiting ≡ waiting_to the_end (length the_end.log) → rest.unread ≡ unread_to the_end (length the_end.log) → IsClosed d seats rest
  closed table d rest d_is waiting unread =
      let on : Terms → DriverState = λ t. record (driver_state table w) { desk = record { table = table; terms = t } } in
      let same : on k ≡ d = ap on (sym the_ends.terms) ∙ (λ t. driver_state table (joined.1 t)) ∙ d_is in
      let h : history (on k) rest ≡ the_ends.log = ap (λ l. take (length w.drives.replies) w.drives.taken ++ l) waiting ∙ history_is the_end w.drives.taken the_ends.taken the_ends.answered in
      subst (λ (y : DriverState). IsClosed y seats rest) same record {
        answered = the_ends.answered;
        taken = the_ends.taken ∙ ap (take (length w.drives.taken)) (sym h);
        placed = subst (Placed k) (sym h) the_ends.at_end.placed;
        made = λ i s lt.
            let s' : CallerState = get_or seats i s in
            let v = view_in i s' (at_item seats i s lt) in
            the_ends.made (view_of s' v.0) v.1 ∙ ap (made_by s'.caller k.base) (sym h);
        collected = λ i s lt.
            let s' : CallerState = get_or seats i s in
            let v = view_in i s' (at_item seats i s lt) in
            the_ends.collected (view_of s' v.0) v.1 ∙ ap (λ l. take (length s'.collected) (replies_for s'.caller k.base l w.drives.replies)) (sym h);
        unread = unread ∙ unread_is the_end seats all_know the_ends.at_end.answered (λ p e at. (the_ends.at_end.placed p e at).0);
      }
