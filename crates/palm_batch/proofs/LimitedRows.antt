-- Lists put behind others as far as a limit allows.
use Rattle.std.proofs.Common.{◌≡◌, ℕ, zero, suc, ◌+◌, ◌-◌, ◌≤◌, min, List, [], ◌∷◌, ◌++◌, length, take, refl, sym, ap, ◌∙◌, arith}
use Rattle.std.proofs.Math.Seq.{take-append-add}
use Rattle.std.proofs.lemmas.List.{take_min}

-- What fits of a list behind another.
pub behind : {X : Type 0} (limit room : ℕ) (held found : List X) → length held ≤ limit → room ≡ min (limit - length held) (length found) → held ++ take room found ≡ take limit (held ++ found)
behind limit room held found few is =
    let left = limit - length held in
    let all : length held + left ≡ limit = omega (arith, few) in
    ap (λ n. held ++ take n found) is ∙ ap (λ l. held ++ l) (take_min left found) ∙ sym (take-append-add held found left) ∙ ap (λ n. take n (held ++ found)) all

-- A list that was cut to the limit before adds the same.
pub behind_cut : {X : Type 0} (n limit : ℕ) (held found : List X) → n ≤ limit → take n (held ++ take limit found) ≡ take n (held ++ found)
behind_cut zero limit held found few = refl
behind_cut (suc n) zero held found few = absurd (omega arith)
behind_cut (suc n) (suc limit) [] [] few = refl
behind_cut (suc n) (suc limit) [] (x ∷ found) few = ap (λ (l : List _). x ∷ l) (behind_cut n limit [] found (omega arith))
behind_cut (suc n) (suc limit) (y ∷ held) found few = ap (λ (l : List _). y ∷ l) (behind_cut n (suc limit) held found (omega arith))
