-- What stays of the callers and of the driver while one seat steps.
use Rattle.std.proofs.Common.{◌≡◌, ℕ, ◌+◌, ◌<◌, ◌≤◌, ◌≢◌, List, [], ◌∷◌, ◌++◌, length, get_or, set, take, sym, ap, ◌∙◌, subst, arith, length-set}
use mathlib.Core.Option.{some}
use mathlib.Core.Logic.{dite}
use native.Mathlib.Decide.{ℕ_discrete}
use lib.ListN.{get_elem?}
use Rattle.atomic_table.proofs.Lists.{at_longer}
use Rattle.palm_base.specs.declared.call.Entry.{Entry}
use Rattle.palm_base.specs.declared.call.Reply.{Reply}
use Rattle.palm_base.specs.declared.desk.Terms.{Terms}
use Rattle.palm_base.specs.Arrivals.{count_of, made_by}
use Rattle.palm_base.specs.Desk.{Machine, Lawful, Reached, put}
use Rattle.palm_desk.specs.declared.views.CallerView.{CallerView}
use Rattle.palm_desk.specs.declared.views.DriverView.{DriverView}
use Rattle.palm_desk.specs.declared.views.Role.TheVariants.{Calling, Driving}
use Rattle.palm_desk.specs.Views.{calling, driving}
use Rattle.palm_desk.specs.Rule.{Desk, Homes, Holder, cell, words_at, CallerOk, CallerAt, DriverOk, InWindow, CellAt, AreCalls, IsRuled}
use Rattle.palm_base.proofs.Arrivals.{length-made_by, take_more}
use Rattle.palm_base.proofs.DeskLaws.{at_put, reached_lawful}
use Rattle.palm_desk.proofs.Cells.{begins_else, cells_apart}
use Rattle.palm_desk.proofs.SeatViews.{calls_on, drives_on}
use Rattle.palm_base.specs.Desk.{callers}
use Rattle.palm_desk.specs.Words.{spell}

-- the law of the machine
pub lawful_of : (k : Terms) (s : Desk) (r : IsRuled k s) → Lawful k r.m
lawful_of k s r = reached_lawful k r.m r.reached

-- each cell but that of one call, and then that one
pub each_but : (k : Terms) (pos : 0 < k.window) (m : Machine) (c j : ℕ) (Q : ℕ → ℕ → Type 0) → InWindow k m c j → Q c j → ((c' j' : ℕ) → InWindow k m c' j' → cell k c' j' ≢ cell k c j → Q c' j') → (c' j' : ℕ) → InWindow k m c' j' → Q c' j'
each_but k pos m c j Q near here other c' j' near' = dite (ℕ_discrete c' c)
    (λ e. dite (ℕ_discrete j' j) (λ e'. subst (λ (y : ℕ × ℕ). Q y.0 y.1) (λ i. (sym e i, sym e' i)) here) (λ ne. go (λ _ h. ne h)))
    (λ ne. go (λ h _. ne h))
  where
    go : ((c' ≡ c) → (j' ≡ j) → ⊥) → Q c' j'
    go apart = other c' j' near' (cells_apart k pos m.got c' c j' j near'.1 near'.2 near.1 near.2 apart)

module _ (k : Terms) (log : List Entry) (up got : ℕ) (given : List (ℕ × Reply)) (done : ℕ) (ws : List ℕ) (c : ℕ) (v : CallerView) where
  pub caller_else : (i x : ℕ) → ((n : ℕ) → n < 3 → words_at (cell k c up) + n ≢ i) → CallerOk k log up got given done ws c v → CallerOk k log up got given done (set ws i x) c v
  caller_else i x ne ok = record {
    caller = ok.caller;
    made = ok.made;
    up_is = ok.up_is;
    collected = ok.collected;
    low = ok.low;
    high = ok.high;
    kept = ok.kept;
    owed = ok.owed;
    short = ok.short;
    may_draft = ok.may_draft;
    begun = let short = ok.short in begins_else ws (words_at (cell k c up)) v.draft i x (λ n lt. ne n (omega arith)) ok.begun;
    pending = λ n call at. begins_else ws (words_at (cell k c up)) (spell call) i x ne (ok.pending n call at);
  }

  pub caller_arrives : (log' : List Entry) → made_by c k.base log' ≡ made_by c k.base log → CallerOk k log up got given done ws c v → CallerOk k log' up got given done ws c v
  caller_arrives log' same ok = let long : count_of c log ≡ count_of c log' = sym (length-made_by c k.base log) ∙ ap length (sym same) ∙ length-made_by c k.base log' in record {
    caller = ok.caller;
    made = ok.made ∙ sym same;
    up_is = ok.up_is;
    collected = ok.collected;
    low = ok.low;
    high = ok.high;
    kept = ok.kept;
    owed = ok.owed;
    short = ok.short;
    may_draft = λ some_draft. let o = ok.may_draft some_draft in (o.0 ∙ long, subst (λ n. n < got + k.window) long o.1);
    begun = ok.begun;
    pending = λ n call at. ok.pending n call (ap (λ l. get_elem? l up) (sym same) ∙ at);
  }

  pub caller_finishes : (done' : ℕ) → done ≤ done' → CallerOk k log up got given done ws c v → CallerOk k log up got given done' ws c v
  caller_finishes done' le ok = let high = ok.high in record {
    caller = ok.caller;
    made = ok.made;
    up_is = ok.up_is;
    collected = ok.collected;
    low = ok.low;
    high = omega arith;
    kept = ok.kept;
    owed = ok.owed;
    short = ok.short;
    may_draft = ok.may_draft;
    begun = ok.begun;
    pending = ok.pending;
  }

pub driver_arrives : (k : Terms) (m : Machine) (d : DriverView) (e : Entry) → m.taken ≤ length m.log → DriverOk k m d → DriverOk k (record m { log = m.log ++ e ∷ [] }) d
driver_arrives k m d e le ok = let same = take_more m.log (e ∷ []) m.taken le in record {
  taken = ok.taken ∙ sym same;
  replies = ok.replies;
  done = ok.done;
  seats = ok.seats;
  idle = ok.idle;
  found = λ c is. let o = ok.found c is in (o.0, at_longer m.log (e ∷ []) m.taken o.0 o.1, o.2, subst (λ l. count_of c l < m.up c) (sym same) o.3, o.4);
}

pub driver_posts : (k : Terms) (m : Machine) (d : DriverView) (c : ℕ) → DriverOk k m d → DriverOk k (record m { up = put m.up c (m.up c + 1) }) d
driver_posts k m d c ok = record {
  taken = ok.taken;
  replies = ok.replies;
  done = ok.done;
  seats = ok.seats;
  idle = ok.idle;
  found = λ i is. let o = ok.found i is in (o.0, o.1, o.2, let lt = o.3 in at_put m.up c (m.up c + 1) (λ j u. count_of j (take m.taken m.log) < m.up j → count_of j (take m.taken m.log) < u) i (λ e. subst (λ j. count_of j (take m.taken m.log) < m.up j → count_of j (take m.taken m.log) < m.up c + 1) (sym e) (λ h. omega arith)) (λ _ h. h) lt, o.4);
}

module _ (k : Terms) (s : Desk) (r : IsRuled k s) (id : ℕ) (me : Holder) (there : get_elem? s.views id ≡ some me.0) (is : me.0.role ≡ Calling) where
  -- one caller steps
  pub by_caller : (i x : ℕ) (homes' : Homes) (m' : Machine) (w : CallerView) → w.caller ≡ me.0.calls.caller → length homes' ≡ length s.homes
      → get_or (set s.words i x) 0 0 ≡ k.base + length m'.log → get_or (set s.words i x) 1 0 ≡ k.base + m'.done → Reached k m' → AreCalls m'.log → DriverOk k m' r.d
      → CallerAt k m' (set s.words i x) me.0.calls.caller w
      → ((c : ℕ) → c < callers k → c ≢ me.0.calls.caller → CallerAt k m' (set s.words i x) c (r.who c))
      → ((c j : ℕ) → InWindow k m' c j → CellAt k m' (put r.who me.0.calls.caller w c).back (set s.words i x) homes' c j)
      → IsRuled k record { words = set s.words i x; homes = homes'; views = set s.views id (calling w me.0) }
  by_caller i x homes' m' w same long tail done law legal drv own others cells = record {
    m = m';
    who = put r.who me.0.calls.caller w;
    seat = r.seat;
    d = r.d;
    at = r.at;
    bounded = r.bounded;
    wide = length-set s.words i x ∙ r.wide;
    slots = long ∙ r.slots;
    tail = tail;
    done = done;
    reached = law;
    legal = legal;
    driver = drv;
    each_caller = λ c lt. at_put r.who me.0.calls.caller w (λ j u. j < callers k → CallerAt k m' (set s.words i x) j u) c (λ e _. subst (λ j. CallerAt k m' (set s.words i x) j w) (sym e) own) (λ ne h. others c h ne) lt;
    each_cell = cells;
    seated = calls_on k r.who r.seat r.d r.at s.views id me.0 w r.seated there is same;
  }

module _ (k : Terms) (s : Desk) (r : IsRuled k s) (id : ℕ) (me : Holder) (there : get_elem? s.views id ≡ some me.0) (is : me.0.role ≡ Driving) where
  -- the driver steps
  pub by_driver : (words' : List ℕ) (homes' : Homes) (m' : Machine) (d' : DriverView) → d'.seats ≡ r.d.seats → d'.ended ≡ r.d.ended → length words' ≡ length s.words → length homes' ≡ length s.homes
      → get_or words' 0 0 ≡ k.base + length m'.log → get_or words' 1 0 ≡ k.base + m'.done → Reached k m' → AreCalls m'.log → DriverOk k m' d'
      → ((c : ℕ) → c < callers k → CallerAt k m' words' c (r.who c))
      → ((c j : ℕ) → InWindow k m' c j → CellAt k m' (r.who c).back words' homes' c j)
      → IsRuled k record { words = words'; homes = homes'; views = set s.views id (driving d' me.0) }
  by_driver words' homes' m' d' seats ended as_many long tail done law legal drv callers_ok cells = record {
    m = m';
    who = r.who;
    seat = r.seat;
    d = d';
    at = r.at;
    bounded = r.bounded;
    wide = as_many ∙ r.wide;
    slots = long ∙ r.slots;
    tail = tail;
    done = done;
    reached = law;
    legal = legal;
    driver = drv;
    each_caller = callers_ok;
    each_cell = cells;
    seated = drives_on k r.who r.seat r.d r.at s.views id me.0 d' r.seated there is seats ended;
  }
