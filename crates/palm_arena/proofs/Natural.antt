-- Cutting and naming go alike over ids, placed nodes and values.
use Rattle.std.proofs.Common.{◌≡◌, ℕ, zero, suc, ◌/◌, ◌%◌, List, [], ◌∷◌, length, map, take, drop, refl, ap}
use Rattle.palm_base.specs.Cut.{even_pieces, piece_count, cut}
use Rattle.palm_base.specs.Pass.{first_low, with_lows, node_over, is_small}

pub take-map : {A B : Type 0} (f : A → B) (n : ℕ) (xs : List A) → take n (map f xs) ≡ map f (take n xs)
take-map f zero xs = refl
take-map f (suc n) [] = refl
take-map f (suc n) (x ∷ xs) = ap (λ l. f x ∷ l) (take-map f n xs)

pub drop-map : {A B : Type 0} (f : A → B) (n : ℕ) (xs : List A) → drop n (map f xs) ≡ map f (drop n xs)
drop-map f zero xs = refl
drop-map f (suc n) [] = refl
drop-map f (suc n) (x ∷ xs) = drop-map f n xs

pub length-map' : {A B : Type 0} (f : A → B) (xs : List A) → length (map f xs) ≡ length xs
length-map' f [] = refl
length-map' f (x ∷ xs) = ap suc (length-map' f xs)

pieces-map : {A B : Type 0} (f : A → B) (q r size : ℕ) (xs : List A) → even_pieces q r size (map f xs) ≡ map (map f) (even_pieces q r size xs)
pieces-map f zero r size xs = refl
pieces-map f (suc q) zero size xs = rw (take-map f size xs, drop-map f size xs, pieces-map f q zero size (drop size xs))
pieces-map f (suc q) (suc r) size xs = rw (take-map f (suc size) xs, drop-map f (suc size) xs, pieces-map f q r size (drop (suc size) xs))

pub cut-map : {A B : Type 0} (f : A → B) (w : ℕ) (xs : List A) → cut w (map f xs) ≡ map (map f) (cut w xs)
unfolding cut
cut-map f w xs = rw (length-map' f xs) (pieces-map f (piece_count w (length xs)) (length xs % piece_count w (length xs)) (length xs / piece_count w (length xs)) xs)

-- Children with their insides changed.
abbrev pub inside : {A B : Type 0} → (A → B) → ℕ × A → ℕ × B
inside f child = (child.0, f child.1)

first-map : {A B : Type 0} (f : A → B) (xs : List (ℕ × A)) → first_low (λ child. child.0) (map (inside f) xs) ≡ first_low (λ child. child.0) xs
first-map f [] = refl
first-map f (x ∷ xs) = refl

later-map : {A B C : Type 0} (f : A → B) (n : List (ℕ × A) → C) (m : List (ℕ × B) → C) → ((p : List (ℕ × A)) → m (map (inside f) p) ≡ n p) → (parts : List (List (ℕ × A)))
    → map {B = ℕ × C} (λ p. (first_low (λ child. child.0) p, m p)) (map (map (inside f)) parts) ≡ map {B = ℕ × C} (λ p. (first_low (λ child. child.0) p, n p)) parts
later-map f n m e [] = refl
later-map f n m e (p ∷ ps) = rw (first-map f p, e p, later-map f n m e ps)

pub with_lows-map : {A B C : Type 0} (f : A → B) (n : List (ℕ × A) → C) (m : List (ℕ × B) → C) → ((p : List (ℕ × A)) → m (map (inside f) p) ≡ n p) → (low : ℕ) (parts : List (List (ℕ × A)))
    → with_lows (λ child. child.0) m low (map (map (inside f)) parts) ≡ with_lows (λ child. child.0) n low parts
with_lows-map f n m e low [] = refl
with_lows-map f n m e low (p ∷ ps) = rw (e p, later-map f n m e ps)

pub node_over-map : {A B : Type 0} (f : A → B) (p : List (ℕ × A)) → node_over (map (inside f) p) ≡ map (inside f) (node_over p)
node_over-map f [] = refl
node_over-map f (x ∷ xs) = refl

pub small-map : {A B : Type 0} (f : A → B) (least : ℕ) (xs : List A) → is_small least (map f xs) ≡ is_small least xs
small-map f least [] = refl
small-map f least (x ∷ xs) = rw (length-map' f xs)
