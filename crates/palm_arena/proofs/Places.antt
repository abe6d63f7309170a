-- Lists of places with one of them changed.
use Rattle.std.proofs.Common.{◌≡◌, ◌≢◌, ℕ, zero, suc, ◌<◌, ◌≤◌, List, [], ◌∷◌, ◌++◌, length, take, set, get_or, refl, sym, ap, ◌∙◌, arith, true, false}
use Rattle.std.specs.Prelude.{IsSome}
use Rattle.std.proofs.lemmas.List.{get_or_past}
use native.Mathlib.Decide.{dec_le}
use Rattle.palm_node.specs.declared.id.NodeId.{NodeId}
use Rattle.palm_node.specs.declared.node.Node.{Node}
use Rattle.palm_arena.specs.declared.place.Place.{Place}
use Rattle.palm_arena.specs.declared.place.Place.TheVariants.{Empty, Lent, Holds}
use Rattle.palm_arena.specs.ArenaState.{place_at, node_in, set_place, IsHeld, IsLent}

-- What was put at a place stands there.
pub at_set_place : (places : List Place) (i : ℕ) (place : Place) → get_or (set_place places i place) i Empty ≡ place
at_set_place [] zero place = refl
at_set_place [] (suc i) place = at_set_place [] i place
at_set_place (old ∷ places) zero place = refl
at_set_place (old ∷ places) (suc i) place = at_set_place places i place

-- Every other place is as it was.
pub beside_set_place : (places : List Place) (i j : ℕ) (place : Place) → j ≢ i → get_or (set_place places i place) j Empty ≡ get_or places j Empty
beside_set_place [] zero zero place apart = absurd (apart refl)
beside_set_place [] zero (suc j) place apart = refl
beside_set_place [] (suc i) zero place apart = refl
beside_set_place [] (suc i) (suc j) place apart = beside_set_place [] i j place (λ same. apart (ap suc same))
beside_set_place (old ∷ places) zero zero place apart = absurd (apart refl)
beside_set_place (old ∷ places) zero (suc j) place apart = refl
beside_set_place (old ∷ places) (suc i) zero place apart = refl
beside_set_place (old ∷ places) (suc i) (suc j) place apart = beside_set_place places i j place (λ same. apart (ap suc same))

-- Within the list, a place is replaced.
pub set_place-within : (places : List Place) (i : ℕ) (place : Place) → i < length places → set places i place ≡ set_place places i place
set_place-within [] i place below = absurd (omega arith)
set_place-within (old ∷ places) zero place below = refl
set_place-within (old ∷ places) (suc i) place below = ap (λ l. old ∷ l) (set_place-within places i place (omega arith))

-- At its end, a place is appended.
pub set_place-end : (places : List Place) (place : Place) → places ++ place ∷ [] ≡ set_place places (length places) place
set_place-end [] place = refl
set_place-end (old ∷ places) place = ap (λ l. old ∷ l) (set_place-end places place)

-- A place that isn't empty is within the list.
pub live_within : (places : List Place) (i : ℕ) → get_or places i Empty ≢ Empty → i < length places
live_within places i live = elim (dec_le (length places) i) [
  | yes past ↦ absurd (live (get_or_past places i Empty past))
  | no within ↦ omega arith
]

pub lent_within : (places : List Place) (id : NodeId) → IsLent places id → id.place < length places
lent_within places id lent = live_within places id.place (λ empty. let e : Lent ≡ Empty = sym lent ∙ empty in cc)

held_in : (place : Place) → IsSome (node_in place) → (node : Node) × (place ≡ Holds node)
held_in Empty held = let e : false ≡ true = held in cc
held_in Lent held = let e : false ≡ true = held in cc
held_in (Holds node) held = (node, refl)

-- A held place has a node.
pub held_node : (places : List Place) (id : NodeId) → IsHeld places id → (node : Node) × (place_at places id ≡ Holds node)
held_node places id held = held_in (place_at places id) held

pub held_within : (places : List Place) (id : NodeId) → IsHeld places id → id.place < length places
held_within places id held =
    let (node, is) = held_node places id held in
    live_within places id.place (λ empty. let e : Holds node ≡ Empty = sym is ∙ empty in cc)

-- A place that is neither lent nor empty has a node.
pub neither : (place : Place) → place ≢ Empty → place ≢ Lent → IsSome (node_in place)
neither Empty live home = absurd (live refl)
neither Lent live home = absurd (home refl)
neither (Holds node) live home = refl

module _ {X : Type 0} where
  pub set-past : (l : List X) (i : ℕ) (a : X) → length l ≤ i → set l i a ≡ l
  set-past [] i a past = refl
  set-past (x ∷ xs) zero a past = absurd (omega arith)
  set-past (x ∷ xs) (suc i) a past = ap (λ l. x ∷ l) (set-past xs i a (omega arith))

  pub set-set : (l : List X) (i : ℕ) (a b : X) → set (set l i a) i b ≡ set l i b
  set-set [] i a b = refl
  set-set (x ∷ xs) zero a b = refl
  set-set (x ∷ xs) (suc i) a b = ap (λ l. x ∷ l) (set-set xs i a b)

  pub set-comm : (l : List X) (i j : ℕ) (a b : X) → j ≢ i → set (set l i a) j b ≡ set (set l j b) i a
  set-comm [] i j a b apart = refl
  set-comm (x ∷ xs) zero zero a b apart = absurd (apart refl)
  set-comm (x ∷ xs) zero (suc j) a b apart = refl
  set-comm (x ∷ xs) (suc i) zero a b apart = refl
  set-comm (x ∷ xs) (suc i) (suc j) a b apart = ap (λ l. x ∷ l) (set-comm xs i j a b (λ same. apart (ap suc same)))

  -- A change and a cut go in either order.
  pub take-set_any : (n : ℕ) (l : List X) (i : ℕ) (a : X) → take n (set l i a) ≡ set (take n l) i a
  take-set_any zero l i a = refl
  take-set_any (suc n) [] i a = refl
  take-set_any (suc n) (x ∷ xs) zero a = refl
  take-set_any (suc n) (x ∷ xs) (suc i) a = ap (λ l. x ∷ l) (take-set_any n xs i a)
