-- Groups with one more part, where the last group is known.
use Rattle.std.proofs.Common.{◌≡◌, ℕ, zero, suc, ◌+◌, ◌<◌, List, [], ◌∷◌, ◌++◌, length, get_or, refl, sym, ap, arith, ◌∙◌}
use Rattle.std.specs.Prelude.{slice_set}
use Rattle.palm_route.specs.declared.part.Routed.{Routed}
use Rattle.palm_route.specs.declared.part.Group.{Group}
use Rattle.palm_route.specs.Runs.{group_with, grown, with_routed}
use Rattle.std.proofs.lemmas.Bool.{eq-eqb, ne_eqb}

pub last_grows : (groups : List Group) (n : ℕ) (last new : Group) (routed : Routed) → n + 1 ≡ length groups → last ≡ get_or groups n last → last.low ≡ routed.low
    → new ≡ grown last routed → slice_set groups n new ≡ with_routed groups routed
last_grows [] n last new routed count at same is = absurd (omega (arith, count))
last_grows (group ∷ []) zero last new routed count at same is =
    rw (eq-eqb group.low routed.low (sym (ap (λ (g : Group). g.low) at) ∙ same)) (ap (λ (g : Group). g ∷ []) (is ∙ ap (λ (g : Group). grown g routed) at))
last_grows (group ∷ []) (suc n) last new routed count at same is = absurd (omega (arith, count))
last_grows (group ∷ next ∷ groups) zero last new routed count at same is = absurd (omega (arith, count))
last_grows (group ∷ next ∷ groups) (suc n) last new routed count at same is =
    ap (λ (l : List Group). group ∷ l) (last_grows (next ∷ groups) n last new routed (omega (arith, count)) at same is)

pub last_other : (groups : List Group) (n : ℕ) (last : Group) (routed : Routed) → n + 1 ≡ length groups → last ≡ get_or groups n last → (last.low ≡ routed.low → ⊥)
    → groups ++ group_with routed ∷ [] ≡ with_routed groups routed
last_other [] n last routed count at other = absurd (omega (arith, count))
last_other (group ∷ []) zero last routed count at other = rw (ne_eqb group.low routed.low (λ e. other (ap (λ (g : Group). g.low) at ∙ e))) refl
last_other (group ∷ []) (suc n) last routed count at other = absurd (omega (arith, count))
last_other (group ∷ next ∷ groups) zero last routed count at other = absurd (omega (arith, count))
last_other (group ∷ next ∷ groups) (suc n) last routed count at other =
    ap (λ (l : List Group). group ∷ l) (last_other (next ∷ groups) n last routed (omega (arith, count)) at other)

-- Writing an item back changes nothing.
pub set_back : {X : Type 0} (xs : List X) (n : ℕ) (x : X) → x ≡ get_or xs n x → slice_set xs n x ≡ xs
set_back [] n x at = refl
set_back (y ∷ xs) zero x at = ap (λ z. z ∷ xs) at
set_back (y ∷ xs) (suc n) x at = ap (λ (l : List _). y ∷ l) (set_back xs n x at)

pub first_alone : (groups : List Group) (routed : Routed) → (0 < length groups → ⊥) → groups ++ group_with routed ∷ [] ≡ with_routed groups routed
first_alone [] routed none = refl
first_alone (group ∷ groups) routed none = absurd (none (omega arith))
