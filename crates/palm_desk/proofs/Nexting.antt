-- The steps by which the driver takes a call, one after the other.
use Rattle.std.proofs.Common.{◌≡◌, ℕ, zero, suc, ◌+◌, ◌-◌, ◌*◌, ◌/◌, ◌%◌, ◌^◌, ◌<◌, ◌≤◌, ◌≢◌, List, [], ◌∷◌, ◌++◌, length, get_or, slice_index, set, take, sym, refl, ap, ◌∙◌, subst, arith, cond, eq-eqb, ne_eqb, mod-lt, length-set, length-append, get_or-set_other, get_or-set_same, None}
use mathlib.Core.Option.{none}
use mathlib.Core.Logic.{dite}
use native.Mathlib.Decide.{ℕ_discrete}
use Rattle.atomic_table.specs.Table.{step, Allows}
use Rattle.atomic_table.proofs.Lists.{at_longer, at_last}
use Rattle.palm_base.specs.declared.call.Call.{Call}
use Rattle.palm_base.specs.declared.call.Entry.{Entry}
use Rattle.palm_base.specs.declared.desk.Terms.{Terms}
use Rattle.palm_base.specs.Arrivals.{entry, count_of}
use Rattle.palm_desk.specs.declared.views.Role.TheVariants.{Driving}
use Rattle.palm_desk.specs.declared.views.View.{View}
use Rattle.palm_desk.specs.Views.{called}
use Rattle.palm_desk.specs.Rule.{Holder, cell, state_at, IsRuled}
use Rattle.palm_base.proofs.Arrivals.{some_at, take_more}
use Rattle.palm_desk.specs.Views.{driving, scanned, read, took, found_if}
use Rattle.palm_desk.specs.Plays.{Reads, Takes}
use Rattle.palm_base.proofs.Arrivals.{one_same}
use mathlib.Core.Path.{Path}
use Rattle.std.proofs.Common.{slice_set}
use Rattle.atomic_table.specs.Table.{Step}
use Rattle.std.proofs.lemmas.List.{get_or_default}
use Rattle.palm_desk.specs.Holding.{cell_of, cell_at, owed, DriverIsReady}
use Rattle.palm_desk.proofs.Scanning.{reads_at}
use Rattle.palm_desk.proofs.Taking.{takes_at}
use Rattle.palm_desk.proofs.Cells.{in_rows}
use Rattle.palm_base.proofs.Arrivals.{count_of-snoc, one_other}
use lib.Seq.{take-append_seam}
use Rattle.std.proofs.Common.{All}
use Rattle.std.proofs.lemmas.List.Elements.{All-push}
use Rattle.atomic_table.proofs.Lists.{one_turn}
use Rattle.atomic_table.specs.Table.{turned}
use Rattle.palm_desk.specs.Scans.{next_number, scan_for, found_with, FoundAt, found_none, NoneCalled, FoundNowhere, TakesOne}
use Rattle.palm_desk.specs.DriverCalls.{TakesNext, FindsNone}
use Rattle.palm_desk.specs.Seats.{driver_state}
use Rattle.atomic_table.specs.Seated.{TableId}
use Rattle.palm_base.specs.Desk.{callers}
use Rattle.palm_desk.specs.Views.{Slot}
use Rattle.palm_desk.specs.Words.{spell, IsCall}

abbrev any : Step Slot
any = step 0 0 0 0 none

-- the driver's seat with some words of the call that was found
abbrev pub Loaded : Holder → List ℕ → Holder
Loaded me xs = (driving (record me.0.drives { loaded = xs }) me.0, me.1)

pub at_none : (me : Holder) → me.0.drives.loaded ≡ [] → Path Holder me (Loaded me [])
at_none me e t = (record me.0 { drives = record me.0.drives { loaded = e t } }, me.1)

pub on_read : (me m m' : Holder) (xs : List ℕ) (n : ℕ) → Path Holder m (Loaded me xs) → Reads any m n m' → Path Holder m' (Loaded me (xs ++ n ∷ []))
on_read me m m' xs n e st t = ((st.0 ∙ ap (λ (h : Holder). driving (read n h.0.drives) h.0) e) t, (st.1 ∙ ap (λ (h : Holder). h.1) e) t)

pub read_ok : (k : Terms) (slots id : ℕ) (me m : Holder) (xs : List ℕ) (i c at : ℕ) → me.0.role ≡ Driving → me.0.drives.found ≡ c + 1 → at ≡ cell me.0.terms c (count_of c me.0.drives.taken) → length xs < 3 → i ≡ 4 * at + 3 + length xs → Path Holder m (Loaded me xs)
    → Allows (IsRuled k) slots id m i (λ n. n) (Reads (step slots i 0 0 none) m)
read_ok k slots id me m xs i c at role found at_is short i_is e = subst (λ (h : Holder). Allows (IsRuled k) slots id h i (λ n. n) (Reads (step slots i 0 0 none) h)) (sym e)
    (reads_at k slots id (Loaded me xs) i c role found short (i_is ∙ ap (λ q. 4 * q + 3 + length xs) at_is))

pub take_ok : (k : Terms) (slots id : ℕ) (me m : Holder) (a b d i x c at number : ℕ) → me.0.role ≡ Driving → me.0.drives.found ≡ c + 1 → at ≡ cell me.0.terms c (count_of c me.0.drives.taken) → number ≡ me.0.terms.base + length me.0.drives.taken → i ≡ 4 * at + 2 → x ≡ 4 * number + 2
    → Path Holder m (Loaded me (a ∷ b ∷ d ∷ [])) → Allows (IsRuled k) slots id m i (λ _. x) (Takes (step slots i x 0 none) m)
take_ok k slots id me m a b d i x c at number role found at_is n_is i_is x_is e = subst (λ (h : Holder). Allows (IsRuled k) slots id h i (λ _. x) (Takes (step slots i x 0 none) h)) (sym e)
    (takes_at k slots id (Loaded me (a ∷ b ∷ d ∷ [])) i x c role found refl (i_is ∙ ap state_at at_is) (x_is ∙ ap (λ n. 4 * n + 2) n_is))

pub on_take : (me m m' m'' : Holder) (a b d n c at : ℕ) (call : Call) → me.0.drives.found ≡ c + 1 → Path Holder m (Loaded me (a ∷ b ∷ d ∷ [])) → Takes (step 0 (4 * at + 2) 0 0 none) m n m' → m'' ≡ (m'.0, turned m'.1)
    → ((x : Call) → IsCall x → spell x ≡ a ∷ b ∷ d ∷ [] → call ≡ x) → TakesOne me.0 m''.0 c call × (m''.1 ≡ me.1 ++ (at, None) ∷ [])
on_take me m m' m'' a b d n c at call found e st went back =
    let st' = subst (λ (h : Holder). Takes (step 0 (4 * at + 2) 0 0 none) h n m') e st in
    let y : Entry = st'.0 in
    let who : y.caller ≡ c = (let f = st'.1 in omega arith) in
    let what : y.call ≡ call = sym (back y.call st'.9 (sym st'.2)) in
    let place = st'.3 ∙ (λ t. slice_index me.0.terms.firsts (who t) + count_of (who t) me.0.drives.taken) in
    let same : y ≡ entry c (slice_index me.0.terms.firsts c + count_of c me.0.drives.taken) call = λ t. record { caller = who t; place = place t; call = what t } in
    let there : (4 * at + 2 - 2) / 4 ≡ at = omega arith in (
      (
        ap (λ (h : Holder). h.0) went ∙ st'.7 ∙ ap (λ z. driving (took z me.0.drives) me.0) same,
        st'.4,
        subst (λ z. count_of z me.0.drives.taken + 1 ≤ me.0.terms.quota) who st'.5,
        st'.6,
      ),
      ap (λ (h : Holder). h.1) went ∙ ap turned st'.8 ∙ ap (λ z. me.1 ++ (z, None) ∷ []) there,
    )

-- the words that were loaded are those of a call
pub read_call : (me m m' : Holder) (a b d n at : ℕ) → Path Holder m (Loaded me (a ∷ b ∷ d ∷ [])) → Takes (step 0 (4 * at + 2) 0 0 none) m n m' → (x : Call) × IsCall x × (spell x ≡ a ∷ b ∷ d ∷ [])
read_call me m m' a b d n at e st = let st' = subst (λ (h : Holder). Takes (step 0 (4 * at + 2) 0 0 none) h n m') e st in (st'.0.call, st'.9, sym st'.2)

-- the seat of a driver that has loaded a state of one caller
abbrev pub Scanned : Holder → ℕ → ℕ → ℕ → Holder
Scanned me n c x = (driving (scanned (scan_for c me.0.drives.scan) n c x me.0.drives) me.0, me.1)

pub not_found_if : (x n c : ℕ) → x ≢ called n → found_if x n c ≡ 0
not_found_if x n c ne = ap (λ b. cond b (c + 1) 0) (ne_eqb x (called n) ne)

pub found_here : (x n c : ℕ) → x ≡ called n → found_if x n c ≡ c + 1
found_here x n c e = ap (λ b. cond b (c + 1) 0) (eq-eqb x (called n) e)

cell_longer : (k : Terms) (a b : List Entry) (i : ℕ) → i < length a → cell_at k (a ++ b) i ≡ cell_at k a i
cell_longer k a b i lt = let f = some_at a i lt in ap (cell_of k (a ++ b) i) (at_longer a b i f.0 f.1) ∙ ap (λ l. cell k f.0.caller (count_of f.0.caller l)) (take_more a b i (omega arith)) ∙ ap (cell_of k a i) (sym f.1)

owed-longer : (k : Terms) (a b : List Entry) (i n : ℕ) → i + n ≤ length a → owed k (a ++ b) i n ≡ owed k a i n
owed-longer k a b i zero le = refl
owed-longer k a b i (suc n) le = λ t. (cell_longer k a b i (omega arith) t, None) ∷ owed-longer k a b (i + 1) n (omega arith) t

owed-snoc : (k : Terms) (a : List Entry) (i n : ℕ) → owed k a i (n + 1) ≡ owed k a i n ++ (cell_at k a (i + n), None) ∷ []
owed-snoc k a i zero = ap (λ j. (cell_at k a j, None) ∷ []) (let g : i ≡ i + 0 = omega arith in g)
owed-snoc k a i (suc n) = ap (owed k a i) (let g : suc n + 1 ≡ suc (n + 1) = omega arith in g) ∙ ap {B = List (ℕ × Slot)} (λ l. (cell_at k a i, None) ∷ l) (owed-snoc k a (i + 1) n ∙ ap (λ j. owed k a (i + 1) n ++ (cell_at k a j, None) ∷ []) (let g : i + 1 + n ≡ i + suc n = omega arith in g))

module _ (words : ℕ) (me : Holder) (base window many taken answered : ℕ) (firsts counts order : List ℕ) (r : DriverIsReady words me base window many taken answered firsts counts order) where
  -- a look that found no call leaves the seat at rest
  pub rescan : (m : Holder) (scan : List (ℕ × ℕ)) → Path Holder m (found_none scan me.0, me.1) → DriverIsReady words m base window many taken answered firsts counts order
  rescan m scan e = subst (λ (h : Holder). DriverIsReady words h base window many taken answered firsts counts order) (sym e) record {
    role = r.role;
    base_is = r.base_is;
    window_is = r.window_is;
    many = r.many;
    some_caller = r.some_caller;
    few = r.few;
    some_cell = r.some_cell;
    small = r.small;
    words_is = r.words_is;
    firsts_are = r.firsts_are;
    firsts_small = r.firsts_small;
    quota_small = r.quota_small;
    taken_is = r.taken_is;
    answered_is = r.answered_is;
    behind = r.behind;
    within = r.within;
    numbers = r.numbers;
    counts_many = r.counts_many;
    counts_are = r.counts_are;
    counts_small = r.counts_small;
    order_many = r.order_many;
    order_is = r.order_is;
    order_in = r.order_in;
    not_found = r.not_found;
    not_loaded = r.not_loaded;
    holds = r.holds;
  }

  -- each caller stays within its quota
  pub in_quota : (c : ℕ) → c < length me.0.terms.firsts → count_of c me.0.drives.taken ≤ me.0.terms.quota
  in_quota c lt = let m = r.many in subst (λ z. z ≤ me.0.terms.quota) (r.counts_are c (omega arith)) (r.counts_small c)

  pub first_small : (c x : ℕ) → c < many → x ≡ get_or firsts c x → x ≤ 2 ^ 61
  first_small c x lt e = let f = ap length r.firsts_are in let m = r.many in subst (λ z. z ≤ 2 ^ 61) (sym (e ∙ get_or_default firsts c x 0 (omega arith))) (r.firsts_small c)

  pub first_is : (c x : ℕ) → c < many → x ≡ get_or firsts c x → x ≡ slice_index me.0.terms.firsts c
  first_is c x lt e = let f = ap length r.firsts_are in let m = r.many in e ∙ get_or_default firsts c x 0 (omega arith) ∙ ap (λ l. slice_index l c) (sym r.firsts_are)

  pub count_is : (c x : ℕ) → c < many → x ≡ get_or counts c x → (x ≡ count_of c me.0.drives.taken) × (x ≤ me.0.terms.quota)
  count_is c x lt e = let m = r.counts_many in let same : x ≡ slice_index counts c = e ∙ get_or_default counts c x 0 (omega arith) in (same ∙ r.counts_are c lt, subst (λ z. z ≤ me.0.terms.quota) (sym same) (r.counts_small c))

  -- the call that was found is taken
  pub taken_one : (m m' : Holder) (scan : List (ℕ × ℕ)) (c at count_before : ℕ) (call : Call) → Path Holder m (found_with c scan me.0, me.1) → TakesOne m.0 m'.0 c call → m'.1 ≡ m.1 ++ (at, None) ∷ [] → c < many → count_before ≡ count_of c me.0.drives.taken → at ≡ c * window + count_before % window
      → DriverIsReady words m' base window many (taken + 1) answered firsts (slice_set counts c (count_before + 1)) (slice_set order (taken % (many * window)) at)
  taken_one m m' scan c at count_before call e took_is slots_are lt before at_is =
      let t = subst (λ (h : Holder). TakesOne h.0 m'.0 c call) e took_is in
      let k = me.0.terms in
      let a : List Entry = me.0.drives.taken in
      let y : Entry = entry c (slice_index k.firsts c + count_of c a) call in
      let slots' : m'.1 ≡ me.1 ++ (at, None) ∷ [] = slots_are ∙ ap (λ (h : Holder). h.1 ++ (at, None) ∷ []) e in
      let long = length-append a (y ∷ []) in let tk = r.taken_is in let an = r.answered_is in let be = r.behind in
      let cells : ℕ = many * window in
      let w : taken + 1 ≤ answered + cells = subst (λ (z : ℕ × ℕ × ℕ × ℕ). z.0 + 1 ≤ z.1 + z.2 * z.3) (λ i. (tk i, an i, r.many i, r.window_is i)) t.3 in
      let cell_is : cell_at k (a ++ y ∷ []) taken ≡ at = ap (cell_of k (a ++ y ∷ []) taken) (at_last a y taken tk) ∙ ap (λ l. cell k c (count_of c l)) (ap (λ i. take i (a ++ y ∷ [])) (sym tk) ∙ take-append_seam a (y ∷ [])) ∙ (λ i. c * r.window_is i + sym before i % r.window_is i) ∙ sym at_is in
      let room : 0 < cells = (let wi = r.within in omega arith) in
      let in_cells : at < cells = subst (λ z. z < cells) (sym at_is) (in_rows many c (count_before % window) window lt (mod-lt count_before r.some_cell)) in
      let cm = r.counts_many in let om = r.order_many in
      let quota = r.quota_small in let q1 = t.2 in
      subst (λ (h : Holder). DriverIsReady words h base window many (taken + 1) answered firsts (slice_set counts c (count_before + 1)) (slice_set order (taken % (many * window)) at)) (λ i. (sym t.0 i, sym slots' i))
      record {
        role = r.role;
        base_is = r.base_is;
        window_is = r.window_is;
        many = r.many;
        some_caller = r.some_caller;
        few = r.few;
        some_cell = r.some_cell;
        small = r.small;
        words_is = r.words_is;
        firsts_are = r.firsts_are;
        firsts_small = r.firsts_small;
        quota_small = r.quota_small;
        taken_is = omega arith;
        answered_is = r.answered_is;
        behind = omega arith;
        within = w;
        numbers = (let b = r.base_is in let g = t.1 in omega arith);
        counts_many = length-set counts c (count_before + 1) ∙ r.counts_many;
        counts_are = λ i lt'. dite (ℕ_discrete i c)
            (λ is. ap (slice_index (set counts c (count_before + 1))) is ∙ get_or-set_same counts c (count_before + 1) 0 (omega arith) ∙ (let s = count_of-snoc i a y in let o = one_same c i (sym is) in let b : count_before ≡ count_of i a = before ∙ ap (λ z. count_of z a) (sym is) in omega arith))
            (λ ne. get_or-set_other counts c i (count_before + 1) 0 ne ∙ r.counts_are i lt' ∙ (let s = count_of-snoc i a y in let o = one_other c i (λ z. ne (sym z)) in omega arith));
        counts_small = λ i. dite (ℕ_discrete i c)
            (λ is. subst (λ z. z ≤ k.quota) (sym (ap (slice_index (set counts c (count_before + 1))) is ∙ get_or-set_same counts c (count_before + 1) 0 (omega arith))) (omega arith))
            (λ ne. subst (λ z. z ≤ k.quota) (sym (get_or-set_other counts c i (count_before + 1) 0 ne)) (r.counts_small i));
        order_many = length-set order (taken % cells) at ∙ r.order_many;
        order_is = λ i lo hi. dite (ℕ_discrete i taken)
            (λ is. ap (λ z. slice_index (set order (taken % cells) at) (z % cells)) is ∙ get_or-set_same order (taken % cells) at 0 (let z = mod-lt taken room in omega arith) ∙ sym cell_is ∙ ap (cell_at k (a ++ y ∷ [])) (sym is))
            (λ ne. get_or-set_other order (taken % cells) (i % cells) at 0 (λ z. ne (one_turn i taken cells (omega arith) (omega arith) z)) ∙ r.order_is i lo (omega arith) ∙ sym (cell_longer k a (y ∷ []) i (omega arith)));
        order_in = λ i lo hi. dite (ℕ_discrete i taken)
            (λ is. subst (λ z. z < cells) (sym (ap (cell_at k (a ++ y ∷ [])) is ∙ cell_is)) in_cells)
            (λ ne. subst (λ z. z < cells) (sym (cell_longer k a (y ∷ []) i (omega arith))) (r.order_in i lo (omega arith)));
        not_found = refl;
        not_loaded = refl;
        holds = (λ i. r.holds i ++ (sym cell_is i, None) ∷ []) ∙ (λ i. sym (owed-longer k a (y ∷ []) answered (taken - answered) (omega arith)) i ++ (cell_at k (a ++ y ∷ []) ((let g : taken ≡ answered + (taken - answered) = omega arith in g) i), None) ∷ [])
            ∙ sym (owed-snoc k (a ++ y ∷ []) answered (taken - answered)) ∙ ap (owed k (a ++ y ∷ []) answered) (let g : taken - answered + 1 ≡ taken + 1 - answered = omega arith in g);
      }

-- one more state was loaded, and it is not that of the next call
pub scan_more : (v₀ v w : View) (c x : ℕ) → v ≡ driving (record v₀.drives { scan = v.drives.scan; loads = v₀.drives.loads + c }) v₀ → v₀.drives.found ≡ 0 → v₀.drives.loaded ≡ []
    → w ≡ driving (scanned (scan_for c v.drives.scan) (v.terms.base + length v.drives.taken) c x v.drives) v → x ≢ called (next_number v₀)
    → (0 < c → (length v.drives.scan ≡ c) × All (λ z. z.1 ≢ called (v₀.terms.base + length v₀.drives.taken)) v.drives.scan)
    → (w ≡ driving (record v₀.drives { scan = w.drives.scan; loads = v₀.drives.loads + (c + 1) }) v₀) × (0 < c + 1 → (length w.drives.scan ≡ c + 1) × All (λ z. z.1 ≢ called (v₀.terms.base + length v₀.drives.taken)) w.drives.scan)
scan_more v₀ v w c x v_is found loaded w_is ne all =
    let n₀ : ℕ = v₀.terms.base + length v₀.drives.taken in
    let same_n : v.terms.base + length v.drives.taken ≡ n₀ = ap (λ (y : View). y.terms.base + length y.drives.taken) v_is in
    let grown : w.drives.scan ≡ scan_for c v.drives.scan ++ (c, x) ∷ [] = ap (λ (y : View). y.drives.scan) w_is in
    let none : found_if x (v.terms.base + length v.drives.taken) c ≡ v₀.drives.found = not_found_if x (v.terms.base + length v.drives.taken) c (λ e. ne (e ∙ ap called same_n)) ∙ sym found in
    let before : All (λ (z : ℕ × ℕ). z.1 ≢ called n₀) (scan_for c v.drives.scan) × (length (scan_for c v.drives.scan) ≡ c) = first_or_more c v.drives.scan n₀ all in (
      w_is ∙ (λ t. driving (record (v_is t).drives { found = none t; loaded = sym loaded t; scan = sym grown t; loads = (v_is t).drives.loads + 1 }) (v_is t)) ∙ ap (λ z. driving (record v₀.drives { scan = w.drives.scan; loads = z }) v₀) (let g : v₀.drives.loads + c + 1 ≡ v₀.drives.loads + (c + 1) = omega arith in g),
      (λ _. (
        ap length grown ∙ (let long = length-append (scan_for c v.drives.scan) ((c, x) ∷ []) in let b = before.1 in omega arith),
        subst (All (λ (z : ℕ × ℕ). z.1 ≢ called n₀)) (sym grown) (All-push (λ (z : ℕ × ℕ). z.1 ≢ called n₀) (scan_for c v.drives.scan) (c, x) before.0 ne),
      )),
    )
  where
    first_or_more : (c : ℕ) (scan : List (ℕ × ℕ)) (n : ℕ) → (0 < c → (length scan ≡ c) × All (λ z. z.1 ≢ called n) scan) → All (λ (z : ℕ × ℕ). z.1 ≢ called n) (scan_for c scan) × (length (scan_for c scan) ≡ c)
    first_or_more zero scan n all = ((λ i x lt. absurd (omega arith)), refl)
    first_or_more (suc c) scan n all = let a = all (omega arith) in (a.1, a.0)

-- a state was loaded that is Called with the next number
pub found_one : (v₀ v w : View) (c x : ℕ) → v ≡ driving (record v₀.drives { scan = v.drives.scan; loads = v₀.drives.loads + c }) v₀ → v₀.drives.loaded ≡ []
    → w ≡ driving (scanned (scan_for c v.drives.scan) (next_number v) c x v.drives) v → x ≡ called (next_number v₀) → c < callers v₀.terms → FoundAt v₀ w c
found_one v₀ v w c x v_is loaded w_is x_is lt =
    let n : ℕ = next_number v in
    let same_n : n ≡ next_number v₀ = ap next_number v_is in
    let found : found_if x n c ≡ c + 1 = found_here x n c (x_is ∙ ap called (sym same_n)) in
    let scan : List (ℕ × ℕ) = scan_for c v.drives.scan ++ (c, x) ∷ [] in (
      lt,
      (
        scan,
        w_is ∙ (λ t. driving (record (v_is t).drives { found = found t; loaded = sym loaded t; scan = scan; loads = (v_is t).drives.loads + 1 }) (v_is t))
            ∙ ap (λ z. driving (record v₀.drives { found = c + 1; scan = scan; loads = z }) v₀) (let g : v₀.drives.loads + c + 1 ≡ v₀.drives.loads + (c + 1) = omega arith in g),
      ),
    )

-- a state of each caller was loaded, and none was
pub found_nowhere : (v₀ v : View) (c : ℕ) → v ≡ driving (record v₀.drives { scan = v.drives.scan; loads = v₀.drives.loads + c }) v₀ → c ≡ callers v₀.terms → 0 < c
    → (0 < c → (length v.drives.scan ≡ c) × All (λ z. z.1 ≢ called (next_number v₀)) v.drives.scan) → FoundNowhere v₀ v
found_nowhere v₀ v c v_is c_is pos all = (v.drives.scan, v_is ∙ ap (λ z. driving (record v₀.drives { scan = v.drives.scan; loads = v₀.drives.loads + z }) v₀) c_is, ((all pos).0 ∙ c_is, (all pos).1))

-- what the seat shows of a call that was taken, and of a look that found none
pub shows_next : (id id' : TableId) (v w u : View) (c place : ℕ) (call : Call) → id' ≡ id → FoundAt v w c → TakesOne w u c call → place ≡ slice_index v.terms.firsts c + count_of c v.drives.taken
    → TakesNext (driver_state id v) (driver_state id' u) (entry c place call)
shows_next id id' v w u c place call same (lt, (scan, w_is)) took_is place_is =
    let here : slice_index w.terms.firsts c + count_of c w.drives.taken ≡ place = ap (λ (y : View). slice_index y.terms.firsts c + count_of c y.drives.taken) w_is ∙ sym place_is in
    record {
      caller = lt;
      place = place_is;
      seat = (λ t. driver_state (same t) (took_is.0 t))
          ∙ (λ t. driver_state id (driving (took (entry c (here t) call) (w_is t).drives) (w_is t)));
    }

pub shows_none : (id id' : TableId) (v w : View) → id' ≡ id → FoundNowhere v w → FindsNone (driver_state id v) (driver_state id' w)
shows_none id id' v w same (scan, w_is, all) =
    let now : driver_state id' w ≡ driver_state id (found_none scan v) = λ t. driver_state (same t) (w_is t) in
    let seen : w.drives.scan ≡ scan = ap (λ (y : View). y.drives.scan) w_is in
    record {
      none = subst (NoneCalled (next_number v) (callers v.terms)) (sym seen) all;
      seat = now ∙ ap (λ z. driver_state id (found_none z v)) (sym seen);
    }
