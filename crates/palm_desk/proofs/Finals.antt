-- What is known once the desk is closed.
use Rattle.palm_desk.proofs.Stays.{lawful_of}
use Rattle.std.proofs.Common.{◌≡◌, ℕ, suc, ◌+◌, ◌*◌, ◌/◌, ◌<◌, ◌≤◌, List, length, get_or, take, sym, refl, ap, ◌∙◌, subst, arith}
use mathlib.Core.Option.{some}
use mathlib.Core.Logic.{dite}
use native.Mathlib.Decide.{dec_le}
use lib.ListN.{get_elem?}
use Rattle.palm_base.specs.declared.call.Entry.{Entry}
use Rattle.palm_base.specs.declared.desk.Terms.{Terms}
use Rattle.palm_base.specs.Arrivals.{count_of, made_by, replies_for}
use Rattle.palm_desk.specs.declared.views.CallerView.{CallerView}
use Rattle.palm_desk.specs.declared.views.Role.TheVariants.{Driving}
use Rattle.palm_desk.specs.declared.views.View.{View}
use Rattle.palm_desk.specs.Rule.{cell, state_at, words_at, Posted, CallerOk, InWindow, IsRuled}
use Rattle.palm_base.proofs.Arrivals.{some_at, length-made_by, count_of-take, count_of-take_all}
use Rattle.palm_base.proofs.Arrivals.{at_call, count_of-take_one, one_same}
use Rattle.palm_desk.proofs.Callers.{numbers}
use Rattle.palm_desk.proofs.Scanning.{drive}
use Rattle.std.proofs.Common.{Contains}
use Rattle.std.proofs.lemmas.List.Elements.{All-contains}
use Rattle.atomic_table.specs.Table.{Final, Seen}
use Rattle.palm_desk.proofs.Callers.{got_length}
use Rattle.palm_base.specs.Desk.{callers}
use Rattle.palm_desk.specs.Views.{Slot}
use Rattle.palm_desk.specs.Views.{filled}
use Rattle.palm_desk.specs.Leftovers.{End, IsEnd, RepliesStand}

-- The end of a desk with this history, by the driver's view.
abbrev pub end_of : Terms → View → List Entry → (ℕ → ℕ) → End
end_of k v log got = record { terms = k; log = log; replies = v.drives.replies; got = got }

-- The driver's view has taken in the view of each caller, which has posted all its calls.
abbrev pub EachEnded : Terms → View → Type 0
EachEnded k v = (c : ℕ) → c < callers k → (x : CallerView) × Contains v.drives.ended x × (x.caller ≡ c) × (x.up ≡ length x.made)

-- What the words and the slots of a closed desk show, with what the views that the driver has taken in know.
pub record Ends (k : Terms) (v : View) (ws : List ℕ) (xs : List Slot) : Type 0 where
  pub log : List Entry
  pub got : ℕ → ℕ
  pub terms : v.terms ≡ k
  pub at_end : IsEnd (end_of k v log got) ws
  pub many : length xs ≡ callers k * k.window
  pub replies : RepliesStand (end_of k v log got) 0 xs
  pub taken : v.drives.taken ≡ take (length v.drives.taken) log
  pub answered : length v.drives.replies ≤ length v.drives.taken
  pub made : (x : CallerView) → Contains v.drives.ended x → x.made ≡ made_by x.caller k.base log
  pub collected : (x : CallerView) → Contains v.drives.ended x
      → x.collected ≡ take (length x.collected) (replies_for x.caller k.base log v.drives.replies)
  pub got_are : (x : CallerView) → Contains v.drives.ended x → length x.collected ≡ got x.caller

-- A state word of a call has its number.
one_of : (x n : ℕ) → x ≡ 4 * n + 1 → x / 4 ≡ n
one_of x n e = omega arith

two_of : (x n : ℕ) → x ≡ 4 * n + 2 → x / 4 ≡ n
two_of x n e = omega arith

three_of : (x n : ℕ) → x ≡ 4 * n + 3 → x / 4 ≡ n
three_of x n e = omega arith

pub ends : (k : Terms) (id : ℕ) (v : View) (ws : List ℕ) (xs : List Slot) → v.role ≡ Driving → EachEnded k v → Final (Seen (IsRuled k) id v) ws xs → Ends k v ws xs
ends k id v ws xs is each (s, (r, there), words, long, homes) =
    let m = r.m in
    let o = drive k s r id v there is in let ok = o.ok in
    let d1 = (lawful_of k s r).done_le in let d2 = (lawful_of k s r).replies_le in let d3 = (lawful_of k s r).taken_le in
    let known : (x : CallerView) → Contains v.drives.ended x → (x ≡ r.who x.caller) × (r.seat x.caller ≡ r.at) × (x.caller < r.d.seats) =
    λ x inside. All-contains (λ (y : CallerView). (y ≡ r.who y.caller) × (r.seat y.caller ≡ r.at) × (y.caller < r.d.seats)) r.d.ended x r.seated.ended (subst (λ l. Contains l x) o.ended inside) in
    let below : (x : CallerView) → Contains v.drives.ended x → x.caller < callers k = λ x inside. (let a = (known x inside).2 in let b = r.driver.seats in omega arith) in
    let okc : (x : CallerView) → Contains v.drives.ended x → CallerOk k m.log (m.up x.caller) (m.got x.caller) (m.given x.caller) m.done s.words x.caller x =
    λ x inside. subst (CallerOk k m.log (m.up x.caller) (m.got x.caller) (m.given x.caller) m.done s.words x.caller) (sym (known x inside).0) (r.each_caller x.caller (below x inside)) in
    let got_is : (x : CallerView) → Contains v.drives.ended x → length x.collected ≡ m.got x.caller = λ x inside. ap length (okc x inside).collected ∙ got_length k m x.caller (lawful_of k s r) (below x inside) in
    let at_cell : (i : ℕ) (e : Entry) → get_elem? m.log i ≡ some e → m.got e.caller ≤ count_of e.caller (take i m.log)
    → Posted k.base m.taken m.replies s.words s.homes (cell k e.caller (count_of e.caller (take i m.log))) i e.call =
    λ i e at later.
    let c : ℕ = e.caller in let j : ℕ = count_of c (take i m.log) in
    let lt : c < callers k = ((lawful_of k s r).placed i e at).0 in
    let x = each c lt in
    let served = (lawful_of k s r).each c lt in let room = served.room in let low = served.low in
    let up : m.up c ≡ count_of c m.log = ap m.up (sym x.2) ∙ sym (okc x.0 x.1).up_is ∙ x.3 ∙ ap length (okc x.0 x.1).made ∙ length-made_by x.0.caller k.base m.log ∙ ap (λ z. count_of z m.log) x.2 in
    let one = count_of-take_one c m.log i e at in let is_one = one_same e.caller c refl in let more = count_of-take_all c m.log (i + 1) in
    let near : InWindow k m c j = (lt, later, omega arith) in
    (r.each_cell c j near).posted i e.call (omega arith) (at_call k.base m.log i e at) in
    record {
      log = m.log;
      got = m.got;
      terms = o.terms;
      at_end = record {
        bounded = r.bounded;
        wide = ap length (sym words) ∙ r.wide;
        placed = (lawful_of k s r).placed;
        legal = r.legal;
        small = numbers k s r;
        answered = (let a = o.replies in omega arith);
        quota = λ c lt. ((lawful_of k s r).each c lt).quota;
        got_le = λ c lt. let a = o.replies in let f = ((lawful_of k s r).each c lt).finished in
            let grows = count_of-take c m.log m.done (length v.drives.replies) (omega arith) in omega arith;
        room = λ c lt. ((lawful_of k s r).each c lt).room;
        numbered = λ i e left.
            let q : ℕ = cell k e.caller (count_of e.caller (take i m.log)) in
            let p = at_cell i e left.0 left.1 in
            let w : get_or ws (state_at q) 0 ≡ get_or s.words (state_at q) 0 = ap (λ l. get_or l (state_at q) 0) (sym words) in
            dite (dec_le (suc i) (length m.replies))
            (λ lt. let y = some_at m.replies i lt in three_of (get_or ws (state_at q) 0) (k.base + i) (w ∙ (p.answered y.0 y.1).0))
            (λ no. dite (dec_le (suc i) m.taken)
            (λ lt. two_of (get_or ws (state_at q) 0) (k.base + i) (w ∙ (p.held (omega arith) lt).0))
            (λ no'. one_of (get_or ws (state_at q) 0) (k.base + i) (w ∙ (p.waits (omega arith)).0)));
        spelled = λ i e left n y at'. let q : ℕ = cell k e.caller (count_of e.caller (take i m.log)) in
            ap (λ l. get_or l (words_at q + n) 0) (sym words) ∙ (at_cell i e left.0 left.1).spelled n y at';
      };
      many = sym long ∙ r.slots;
      replies = λ i e y from left at'. let q : ℕ = cell k e.caller (count_of e.caller (take i m.log)) in
          homes q (filled (k.base + i) y) ((at_cell i e left.0 left.1).answered y (ap (λ l. get_elem? l i) (sym ok.replies) ∙ at')).1;
      taken = ok.taken ∙ ap (λ n. take n m.log) (sym o.taken);
      answered = (let a = o.taken in let b = o.replies in omega arith);
      made = λ x inside. (okc x inside).made;
      collected = λ x inside. (okc x inside).collected ∙ ((lawful_of k s r).each x.caller (below x inside)).given ∙ (λ t. take (sym (got_is x inside) t) (replies_for x.caller k.base m.log (sym ok.replies t)));
      got_are = got_is;
    }
