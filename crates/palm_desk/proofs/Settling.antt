-- At the end a caller's slots go home, one after the other, and its seat is joined.
use Rattle.std.proofs.Common.{◌≡◌, ℕ, zero, suc, ◌+◌, ◌-◌, ◌<◌, List, [], ◌∷◌, ◌++◌, length, get_or, sym, refl, ap, ◌∙◌, subst, arith, length-append, get_or-set_other, get_or-set_same, None}
use mathlib.Core.Option.{none}
use mathlib.Core.Logic.{dite}
use native.Mathlib.Decide.{ℕ_discrete}
use Rattle.atomic_table.specs.Table.{step, Allows, rest}
use Rattle.palm_base.specs.declared.desk.Terms.{Terms}
use Rattle.palm_desk.specs.declared.views.CallerView.{CallerView}
use Rattle.palm_desk.specs.declared.views.Role.TheVariants.{Driving}
use Rattle.palm_desk.specs.declared.views.View.{View}
use Rattle.palm_desk.specs.Views.{calling}
use Rattle.palm_desk.specs.Rule.{Holder, cell, IsRuled}
use Rattle.std.proofs.Common.{max, slice_index, slice_set}
use Rattle.palm_desk.specs.Holding.{held, CallerIsReady}
use Rattle.std.proofs.Common.{All, Contains}
use Rattle.atomic_table.specs.Table.{Joins}
use lib.ListN.{get_or-append}
use Rattle.std.proofs.lemmas.List.Elements.{Contains-append_left, Contains-push}
use Rattle.palm_desk.specs.Views.{settled, closed_by, spent}
use Rattle.palm_desk.specs.Plays.{Settles}
use Rattle.palm_desk.proofs.Ends.{settles_at, joins_at}
use Rattle.atomic_table.specs.Seated.{TableId}
use Rattle.palm_desk.specs.Joining.{IsSettled, AllJoined, CountsOf, view_of}
use Rattle.palm_desk.specs.Seats.{CallerState, caller_state}
use Rattle.palm_desk.specs.Views.{Slot}

-- the seat once some slots went home
abbrev pub Back : Holder → ℕ → List (ℕ × Slot) → Holder
Back me back slots = (calling (record me.0.calls { back = back }) me.0, slots)

module _ (words : ℕ) (me : Holder) (caller window quota made got : ℕ) (numbers : List ℕ) (r : CallerIsReady words me caller window quota made got numbers) where
  pub settle_ok : (k : Terms) (slots id : ℕ) (m : Holder) (back turn : ℕ) → m.0 ≡ calling (record me.0.calls { back = back }) me.0 → max back made ≡ turn → turn < got + window → m.1 ≡ held me.0.terms caller turn (got + window - turn)
      → Allows (IsRuled k) slots id m 0 (λ n. n) (Settles (step slots 0 0 0 none) m)
  settle_ok k slots id m back turn view at lt holds =
      let u = r.up_is in let a = r.made_is in let b = r.got_is in let w = r.window_is in
      let all : m.1 ≡ (cell me.0.terms caller turn, None) ∷ held me.0.terms caller (turn + 1) (got + window - turn - 1) = holds ∙ ap (held me.0.terms caller turn) (let g : got + window - turn ≡ suc (got + window - turn - 1) = omega arith in g) in
      let same : cell me.0.terms caller turn ≡ cell me.0.terms me.0.calls.caller turn = λ t. cell me.0.terms (sym r.caller_is t) turn in
      subst (λ (h : Holder). Allows (IsRuled k) slots id h 0 (λ n. n) (Settles (step slots 0 0 0 none) h)) (λ t. (sym view t, m.1))
      (settles_at k slots id (Back me back m.1) turn r.role (u ∙ sym a) (sym at ∙ ap (max back) (sym u)) (omega arith) (all ∙ (λ t. (same t, None) ∷ rest (sym all t))))

  pub on_settle : (m m' : Holder) (back turn : ℕ) → m.0 ≡ calling (record me.0.calls { back = back }) me.0 → max back made ≡ turn → turn < got + window → m.1 ≡ held me.0.terms caller turn (got + window - turn) → Settles (step 0 0 0 0 none) m 0 m'
      → (m'.0 ≡ calling (record me.0.calls { back = turn + 1 }) me.0) × (max (turn + 1) made ≡ turn + 1) × (m'.1 ≡ held me.0.terms caller (turn + 1) (got + window - (turn + 1)))
  on_settle m m' back turn view at lt holds st =
      let u = r.up_is in (
        st.0 ∙ (λ t. calling (settled (view t).calls) (view t)) ∙ ap (λ z. calling (record me.0.calls { back = z + 1 }) me.0) (ap (max back) u ∙ at),
        omega arith,
        st.1 ∙ ap rest (holds ∙ ap (held me.0.terms caller turn) (let g : got + window - turn ≡ suc (got + window - (turn + 1)) = omega arith in g)),
      )

  -- the seat knows what it knew
  pub now_settled : (id : TableId) (m : Holder) (back : ℕ) → m.0 ≡ calling (record me.0.calls { back = back }) me.0 → IsSettled (caller_state id me.0) m.0
  now_settled id m back view =
      let up : me.0.calls.up ≡ length me.0.calls.made = r.up_is ∙ sym r.made_is in
      let draft = r.draft_is in (
        ap (λ (v : View). v.role) view ∙ r.role,
        (back, ap (λ (v : View). v.calls) view ∙ (λ t. record (view_of (caller_state id me.0) back) { up = up t; draft = draft t })),
      )

-- one more seat is joined
pub joined_none : (v : View) → AllJoined v v []
joined_none v = (v.drives.ended, refl, λ k d lt. absurd (omega arith))

pub joined_more : (v₀ v w o : View) (s : CallerState) (done : List CallerState) → AllJoined v₀ v done → IsSettled s o → w ≡ closed_by v o → AllJoined v₀ w (s ∷ done)
joined_more v₀ v w o s done (ended, v_is, all) (_, (back, o_is)) w_is =
    let x : CallerView = view_of s back in (
      ended ++ x ∷ [],
      w_is ∙ (λ t. record (v_is t) { drives = record (v_is t).drives { ended = (v_is t).drives.ended ++ o_is t ∷ [] } }),
      λ k d lt. push_cases (λ (y : CallerState). (b : ℕ) × Contains (ended ++ x ∷ []) (view_of y b)) done s k d lt
          (λ k' lt'. let a = all k' d lt' in (a.0, Contains-append_left ended (x ∷ []) (view_of (get_or done k' d) a.0) a.1))
          (back, Contains-push ended x),
    )
  where
    push_cases : (P : CallerState → Type 0) (l : List CallerState) (a : CallerState) (k : ℕ) (d : CallerState) → k < length (a ∷ l) → ((k' : ℕ) → k' < length l → P (get_or l k' d)) → P a → P (get_or (a ∷ l) k d)
    push_cases P l a zero d lt f p = p
    push_cases P l a (suc k) d lt f p = f k (omega arith)

pub join_ok : (k : Terms) (id other : ℕ) (v₀ v o : View) (s : CallerState) (done : List CallerState) → v₀.role ≡ Driving → AllJoined v₀ v done → IsSettled s o → Joins (IsRuled k) id v other o (closed_by v o) spent
join_ok k id other v₀ v o s done role (ended, v_is, all) (calls, settled_is) = joins_at k id v other o (ap (λ (y : View). y.role) v_is ∙ role) calls

-- Each caller that has a seat among these keeps its counts once one more seat's are put down.
pub counts_none : (got made : List ℕ) → CountsOf [] got made
counts_none got made i d lt = absurd (omega arith)

pub counts_more : (s : CallerState) (done : List CallerState) (got made : List ℕ) (c g m : ℕ) → s.caller ≡ c → c < length got → c < length made → g ≡ length s.collected → m ≡ length s.made → CountsOf done got made → CountsOf (s ∷ done) (slice_set got c g) (slice_set made c m)
counts_more s done got made c g m who in_got in_made g_is m_is all zero d lt = newest s done got made c g m who in_got in_made g_is m_is
  where
    newest : (s : CallerState) (done : List CallerState) (got made : List ℕ) (c g m : ℕ) → s.caller ≡ c → c < length got → c < length made → g ≡ length s.collected → m ≡ length s.made
        → (y : CallerState) × Contains (s ∷ done) y × (y.caller ≡ s.caller) × (slice_index (slice_set got c g) y.caller ≡ length y.collected) × (slice_index (slice_set made c m) y.caller ≡ length y.made)
    newest s done got made c g m who in_got in_made g_is m_is = (
      s,
      (0, omega arith, refl),
      refl,
      ap (slice_index (slice_set got c g)) who ∙ get_or-set_same got c g 0 in_got ∙ g_is,
      ap (slice_index (slice_set made c m)) who ∙ get_or-set_same made c m 0 in_made ∙ m_is,
    )
counts_more s done got made c g m who in_got in_made g_is m_is all (suc i) d lt =
    let o = all i d (omega arith) in
    dite (ℕ_discrete o.0.caller c)
    (λ is. (s, (0, omega arith, refl), who ∙ sym is ∙ o.2, ap (slice_index (slice_set got c g)) who ∙ get_or-set_same got c g 0 in_got ∙ g_is, ap (slice_index (slice_set made c m)) who ∙ get_or-set_same made c m 0 in_made ∙ m_is))
    (λ ne. (o.0, behind o.0 o.1, o.2, get_or-set_other got c o.0.caller g 0 ne ∙ o.3, get_or-set_other made c o.0.caller m 0 ne ∙ o.4))
  where
    behind : (y : CallerState) → Contains done y → Contains (s ∷ done) y
    behind y (k, lt', at) = (suc k, omega arith, at)

pub shifted : (a : List CallerState) (c : CallerState) (b : List CallerState) → (a ++ c ∷ []) ++ b ≡ a ++ c ∷ b
shifted [] c b = refl
shifted (x ∷ a) c b = ap {B = List CallerState} (λ l. x ∷ l) (shifted a c b)

pub all_but_last : (P : CallerState → Type 0) (l : List CallerState) (a : CallerState) → All P (l ++ a ∷ []) → All P l × P a
all_but_last P l a all = ((λ k d lt. let long = length-append l (a ∷ []) in subst P (get_or-append l (a ∷ []) d k lt) (all k d (omega arith))), subst P (last l a) (all (length l) a (let long = length-append l (a ∷ []) in omega arith)))
  where
    last : (l : List CallerState) (a : CallerState) → get_or (l ++ a ∷ []) (length l) a ≡ a
    last [] a = refl
    last (x ∷ l) a = last l a

pub none_left : (l : List CallerState) → length l ≡ 0 → l ≡ []
none_left [] e = refl
none_left (x ∷ l) e = absurd (omega arith)
