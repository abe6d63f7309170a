-- Lists that are filtered twice.
use Rattle.std.proofs.Common.{◌≡◌, Bool, true, false, cond, List, [], ◌∷◌, refl, ap}
use Rattle.std.specs.List.{filter}

-- A filter that lets through all that another does leaves what that one leaves.
pub filter-wider : {X : Type 0} (p q : X → Bool) (xs : List X) → ((x : X) → p x ≡ true → q x ≡ true) → filter p (filter q xs) ≡ filter p xs
filter-wider p q [] h = refl
filter-wider {X} p q (x ∷ xs) h = by (filter-wider p q xs h) (p x) refl (q x) refl
  where
    by : filter p (filter q xs) ≡ filter p xs → (b : Bool) → p x ≡ b → (c : Bool) → q x ≡ c → filter p (cond c (x ∷ filter q xs) (filter q xs)) ≡ cond b (x ∷ filter p xs) (filter p xs)
    by rest true f true g = rw f (ap (λ (l : List X). x ∷ l) rest)
    by rest true f false g = let t = h x f in absurd cc
    by rest false f true g = rw f rest
    by rest false f false g = rest
