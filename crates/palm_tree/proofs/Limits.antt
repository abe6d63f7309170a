-- Items appended to others as far as a limit allows: a part after a part, and an end where no more is left or fits.
use Rattle.std.proofs.Common.{◌≡◌, ℕ, zero, suc, ◌≤◌, List, [], ◌∷◌, ◌++◌, length, take, refl, sym, ap, arith, ◌∙◌, ◌⊎◌, inl, inr}
use Rattle.std.proofs.lemmas.List.{append-nil, append_assoc, take_all}

take_again : {X : Type 0} (limit : ℕ) (xs ys : List X) → take limit (take limit xs ++ ys) ≡ take limit (xs ++ ys)
take_again zero xs ys = refl
take_again (suc limit) [] ys = refl
take_again (suc limit) (x ∷ xs) ys = ap (λ (l : List _). x ∷ l) (take_again limit xs ys)

take_full : {X : Type 0} (limit : ℕ) (xs ys : List X) → limit ≤ length (take limit xs) → take limit xs ≡ take limit (xs ++ ys)
take_full zero xs ys full = refl
take_full (suc limit) [] ys full = absurd (omega arith)
take_full (suc limit) (x ∷ xs) ys full = ap (λ (l : List _). x ∷ l) (take_full limit xs ys (omega (arith, full)))

pub take_short : {X : Type 0} (limit : ℕ) (xs : List X) → length (take limit xs) ≤ limit
take_short zero xs = omega arith
take_short (suc limit) [] = omega arith
take_short (suc limit) (x ∷ xs) = omega (arith, take_short limit xs)

-- Before the first part there is nothing.
pub none_yet : {X : Type 0} (limit : ℕ) (held found : List X) → length held ≤ limit → found ≡ [] → held ≡ take limit (held ++ found)
none_yet limit held found room none = rw (none, append-nil held) (sym (take_all limit held room))

-- One part more.
pub one_more : {X : Type 0} (limit : ℕ) (held found part now next : List X) → now ≡ take limit (held ++ found) → next ≡ take limit (now ++ part)
    → next ≡ take limit (held ++ (found ++ part))
one_more limit held found part now next is more =
    more ∙ ap (λ (l : List _). take limit (l ++ part)) is ∙ take_again limit (held ++ found) part ∙ ap (take limit) (append_assoc held found part)

-- Nothing is left, or no more fits.
pub no_more : {X : Type 0} (limit : ℕ) (held found part all now : List X) → now ≡ take limit (held ++ found) → all ≡ found ++ part
    → ((part ≡ []) ⊎ (limit ≤ length now)) → now ≡ take limit (held ++ all)
no_more limit held found part all now is whole (inl none) =
    is ∙ ap (λ (l : List _). take limit (held ++ l)) (sym (append-nil found) ∙ ap (λ (l : List _). found ++ l) (sym none) ∙ sym whole)
no_more limit held found part all now is whole (inr full) =
    let enough : limit ≤ length (take limit (held ++ found)) = rw (sym is) full in
    is ∙ take_full limit (held ++ found) part enough ∙ ap (take limit) (append_assoc held found part ∙ ap (λ (l : List _). held ++ l) (sym whole))
