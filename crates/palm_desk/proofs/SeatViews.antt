-- What stays of the seats while one of them moves.
use Rattle.std.proofs.Common.{◌≡◌, ℕ, ◌<◌, ◌≤◌, ◌≢◌, List, get_or, set, sym, refl, ap, ◌∙◌, subst, arith, inl, inr, ⊎_elim, All, Contains}
use mathlib.Core.Option.{some, some-injective}
use mathlib.Core.Logic.{dite}
use mathlib.Core.Path.{Path}
use native.Mathlib.Decide.{ℕ_discrete}
use lib.ListN.{get_elem?}
use Rattle.atomic_table.proofs.Lists.{at_set, set_here, set_else}
use Rattle.palm_base.specs.declared.desk.Terms.{Terms}
use Rattle.palm_base.specs.Desk.{put}
use Rattle.palm_desk.specs.declared.views.CallerView.{CallerView}
use Rattle.palm_desk.specs.declared.views.DriverView.{DriverView}
use Rattle.palm_desk.specs.declared.views.Role.{Role}
use Rattle.palm_desk.specs.declared.views.Role.TheVariants.{Calling, Driving, Spent}
use Rattle.palm_desk.specs.declared.views.View.{View}
use Rattle.palm_desk.specs.Views.{calling, driving}
use Rattle.palm_desk.specs.Rule.{Knows, Seated}
use Rattle.palm_base.proofs.Arrivals.{at_below}
use Rattle.palm_base.proofs.DeskLaws.{at_put}

pub put_here : {A : Type 0} (f : ℕ → A) (c : ℕ) (x : A) → Path A (put f c x c) x
put_here {A} f c x = at_put f c x (λ i y. i ≡ c → Path A y x) c (λ _ _. refl) (λ ne e. absurd (ne e)) refl

pub put_else : {A : Type 0} (f : ℕ → A) (c : ℕ) (x : A) (j : ℕ) → j ≢ c → Path A (put f c x j) (f j)
put_else {A} f c x j ne = at_put f c x (λ i y. i ≢ c → Path A y (f i)) j (λ e n. absurd (n e)) (λ _ _. refl) ne

role_apart : Calling ≡ Driving → ⊥
role_apart e = cc

module _ (k : Terms) (who : ℕ → CallerView) (seat : ℕ → ℕ) (d : DriverView) (at : ℕ) where
  pub is_calling : (views : List View) (id : ℕ) (v : View) → Seated k who seat d at views → get_elem? views id ≡ some v → v.role ≡ Calling → Knows k who seat d at id v Calling
  is_calling views id v s there is = subst (Knows k who seat d at id v) is (s.each id v there)

  pub is_driving : (views : List View) (id : ℕ) (v : View) → Seated k who seat d at views → get_elem? views id ≡ some v → v.role ≡ Driving → Knows k who seat d at id v Driving
  is_driving views id v s there is = subst (Knows k who seat d at id v) is (s.each id v there)

  -- a seat that calls isn't the driver's
  pub not_driver : (views : List View) (id : ℕ) (v : View) → Seated k who seat d at views → get_elem? views id ≡ some v → v.role ≡ Calling → id ≢ at
  not_driver views id v s there is e = let o = s.driver in role_apart (sym is ∙ ap (λ (x : View). x.role) (some-injective v o.0 (sym there ∙ ap (get_elem? views) e ∙ o.1)) ∙ o.2)

  other_calls : (id c : ℕ) (w : CallerView) → seat c ≡ id → (j : ℕ) (v : View) → j ≢ id → (r : Role) → Knows k who seat d at j v r → Knows k (put who c w) seat d at j v r
  other_calls id c w here j v ne Calling kn = let apart : v.calls.caller ≢ c = λ e. ne (sym kn.2 ∙ ap seat e ∙ here) in (kn.0, kn.1 ∙ sym (put_else who c w v.calls.caller apart), kn.2, kn.3)
  other_calls id c w here j v ne Driving kn = kn
  other_calls id c w here j v ne Spent kn = kn

  ended_stays : (id c : ℕ) (w : CallerView) → seat c ≡ id → id ≢ at → (xs : List CallerView) → All (λ x. (x ≡ who x.caller) × (seat x.caller ≡ at) × (x.caller < d.seats)) xs
      → All (λ x. (x ≡ put who c w x.caller) × (seat x.caller ≡ at) × (x.caller < d.seats)) xs
  ended_stays id c w here ne xs all n x lt = let o = all n x lt in let y : CallerView = get_or xs n x in (o.0 ∙ sym (put_else who c w y.caller (λ e. ne (sym here ∙ ap seat (sym e) ∙ o.1))), o.1, o.2)

  -- the seat of a caller has a new view
  pub calls_on : (views : List View) (id : ℕ) (v : View) (w : CallerView) → Seated k who seat d at views → get_elem? views id ≡ some v → v.role ≡ Calling → w.caller ≡ v.calls.caller
      → Seated k (put who v.calls.caller w) seat d at (set views id (calling w v))
  calls_on views id v w s there is same =
      let c : ℕ = v.calls.caller in
      let own = is_calling views id v s there is in
      let here : seat c ≡ id = own.2 in
      let ne = not_driver views id v s there is in
      let v' : View = calling w v in
      let in_range = at_below views id v there in
      record {
        each = λ j x e. ⊎_elim
            (λ (h : (j ≡ id) × (v' ≡ x)). subst (λ (y : ℕ × View). Knows k (put who c w) seat d at y.0 y.1 y.1.role) (λ i. (sym h.0 i, h.1 i))
            (subst (Knows k (put who c w) seat d at id v') (sym is) (own.0, sym (ap (put who c w) same ∙ put_here who c w), ap seat same ∙ here, subst (λ i. i < d.seats) (sym same) own.3)))
            (λ (h : (j ≢ id) × (get_elem? views j ≡ some x)). other_calls id c w here j x h.0 x.role (s.each j x h.1))
            (at_set views id j v' x e);
        driver = let o = s.driver in (o.0, set_else views id at v' (λ e. ne (sym e)) ∙ o.1, o.2);
        found = λ i lt. dite (ℕ_discrete i c)
            (λ e. inl (v', ap (get_elem? (set views id v')) (ap seat e ∙ here) ∙ set_here views id v' in_range, is, same ∙ sym e))
            (λ other. ⊎_elim
            (λ (h : (x : View) × (get_elem? views (seat i) ≡ some x) × (x.role ≡ Calling) × (x.calls.caller ≡ i)).
            let apart : seat i ≢ id = λ e. other (sym h.3 ∙ ap (λ (y : View). y.calls.caller) (some-injective h.0 v (sym h.1 ∙ ap (get_elem? views) e ∙ there))) in
            inl (h.0, set_else views id (seat i) v' apart ∙ h.1, h.2, h.3))
            (λ (h : (seat i ≡ at) × Contains d.ended (who i)). inr (h.0, subst (Contains d.ended) (sym (put_else who c w i other)) h.1))
            (s.found i lt));
        ended = ended_stays id c w here ne d.ended s.ended;
        unmade = λ i le lt. let own_lt = own.3 in put_else who c w i (λ e. omega arith) ∙ s.unmade i le lt;
      }

  other_drives : (d' : DriverView) → d'.seats ≡ d.seats → (j : ℕ) (v : View) → j ≢ at → (r : Role) → Knows k who seat d at j v r → Knows k who seat d' at j v r
  other_drives d' same j v ne Calling kn = (kn.0, kn.1, kn.2, subst (λ n. v.calls.caller < n) (sym same) kn.3)
  other_drives d' same j v ne Driving kn = absurd (ne (sym kn.2))
  other_drives d' same j v ne Spent kn = kn

  -- the driver's seat has a new view
  pub drives_on : (views : List View) (id : ℕ) (v : View) (d' : DriverView) → Seated k who seat d at views → get_elem? views id ≡ some v → v.role ≡ Driving → d'.seats ≡ d.seats → Path (List CallerView) d'.ended d.ended
      → Seated k who seat d' at (set views id (driving d' v))
  drives_on views id v d' s there is same ended =
      let own = is_driving views id v s there is in
      let v' : View = driving d' v in
      let in_range = at_below views id v there in
      record {
        each = λ j x e. ⊎_elim
            (λ (h : (j ≡ id) × (v' ≡ x)). subst (λ (y : ℕ × View). Knows k who seat d' at y.0 y.1 y.1.role) (λ i. (sym h.0 i, h.1 i))
            (subst (Knows k who seat d' at id v') (sym is) (own.0, refl, own.2)))
            (λ (h : (j ≢ id) × (get_elem? views j ≡ some x)). other_drives d' same j x (λ e. h.0 (e ∙ own.2)) x.role (s.each j x h.1))
            (at_set views id j v' x e);
        driver = (v', ap (get_elem? (set views id v')) own.2 ∙ set_here views id v' in_range, is);
        found = λ i lt. ⊎_elim
            (λ (h : (x : View) × (get_elem? views (seat i) ≡ some x) × (x.role ≡ Calling) × (x.calls.caller ≡ i)).
            let apart : seat i ≢ id = λ e. role_apart (sym h.2 ∙ ap (λ (y : View). y.role) (some-injective h.0 v (sym h.1 ∙ ap (get_elem? views) e ∙ there)) ∙ is) in
            inl (h.0, set_else views id (seat i) v' apart ∙ h.1, h.2, h.3))
            (λ (h : (seat i ≡ at) × Contains d.ended (who i)). inr (h.0, subst (λ l. Contains l (who i)) (sym ended) h.1))
            (s.found i (subst (λ n. i < n) same lt));
        ended = subst (λ (y : List CallerView × ℕ). All (λ x. (x ≡ who x.caller) × (seat x.caller ≡ at) × (x.caller < y.1)) y.0) (λ i. (sym ended i, sym same i)) s.ended;
        unmade = λ i le lt. s.unmade i (subst (λ n. n ≤ i) same le) lt;
      }
