-- Lists that are filtered.
use Rattle.std.proofs.Common.{◌≡◌, Bool, true, false, cond, ◌&&◌, List, [], ◌∷◌, filter, refl}

-- A list filtered twice is filtered by both tests.
pub filter_both : {X : Type 0} (both first second : X → Bool) → ((x : X) → both x ≡ (first x && second x)) → (xs : List X)
    → filter both xs ≡ filter second (filter first xs)
filter_both both first second agree [] = refl
filter_both both first second agree (x ∷ xs) = rw (agree x, filter_both both first second agree xs) (by (first x) (second x) refl)
  where
    by : (a b : Bool) → second x ≡ b
        → cond (a && b) (x ∷ filter second (filter first xs)) (filter second (filter first xs)) ≡ filter second (cond a (x ∷ filter first xs) (filter first xs))
    by true b is = rw is refl
    by false b is = refl
