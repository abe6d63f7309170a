-- The bits of tests: of the first elements of a list, and of two lists side by side.
use Rattle.std.proofs.Common.{◌≡◌, ℕ, zero, suc, ◌+◌, ◌*◌, ◌/◌, ◌%◌, ◌^◌, ◌≤◌, Bool, true, false, cond, List, [], ◌∷◌, ◌++◌, map, length, take, drop, ◌<◌, ◌-◌, mul_assoc, length-drop, subst, ap, sym, ◌∙◌, arith}
use Rattle.std.proofs.lemmas.List.{length-map, take-map, take_all, length-take-le, take-append-drop}
use Rattle.std.proofs.lemmas.Simd.{bitmask_splat, mask_l-lt}
use Rattle.std.specs.Prelude.{replicate}
use mir.Syntax.{w64}
use mir.Val.{bits, hbits}
use Rattle.std.proofs.Math.Nat.{mod-one, zero-mod}
use native.Mathlib.Nat.{pow-suc, pow-zero, one-le-pow}
use lib.Arith.{mod-mul}
use lib.Lanes.{mask_l, zip2, top}
use Rattle.palm_lanes.specs.Bits.{bits_where}

lowest : (b : Bool) (n : ℕ) → ((cond b 1 0 + 2 * n) % 2 ≡ cond b 1 0) × ((cond b 1 0 + 2 * n) / 2 ≡ n)
lowest true n = omega arith
lowest false n = omega arith

mask-take : (n : ℕ) (ms : List Bool) → mask_l ms % 2 ^ n ≡ mask_l (take n ms)
mask-take zero ms = ap (λ k. mask_l ms % k) (pow-zero 2) ∙ mod-one (mask_l ms)
mask-take (suc n) [] = zero-mod (2 ^ suc n)
mask-take (suc n) (m ∷ ms) =
    ap (λ k. mask_l (m ∷ ms) % k) (pow-suc 2 n)
    ∙ mod-mul (mask_l (m ∷ ms)) {m = 2 ^ n} {c = 2} (omega (arith, one-le-pow n 2 (omega arith))) (omega arith)
    ∙ (λ i. (lowest m (mask_l ms)).1 i % 2 ^ n * 2 + (lowest m (mask_l ms)).0 i)
    ∙ ap (λ k. k * 2 + cond m 1 0) (mask-take n ms)
    ∙ omega arith

pub bits_of_first : (p : ℕ → Bool) (n : ℕ) (xs : List ℕ) → bits_where p xs % 2 ^ n ≡ bits_where p (take n xs)
bits_of_first p n xs = mask-take n (map p xs) ∙ ap mask_l (take-map p n xs)

pub bits-append : (p : ℕ → Bool) (xs ys : List ℕ) → bits_where p xs + 2 ^ length xs * bits_where p ys ≡ bits_where p (xs ++ ys)
bits-append p [] ys = omega arith
bits-append p (x ∷ xs) ys =
    let more = bits-append p xs ys in
    rw (pow-suc 2 (length xs), mul_assoc (2 ^ length xs) 2 (bits_where p ys)) (omega arith)

-- of the first n elements, from the bits of the first k and of those that follow
pub bits_joined : (p : ℕ → Bool) (k n : ℕ) (xs : List ℕ) → k ≤ length xs → (bits_where p (take k xs) + 2 ^ k * bits_where p (drop k xs)) % 2 ^ n ≡ bits_where p (take n xs)
bits_joined p k n xs le =
    ap (λ (m : ℕ). (bits_where p (take k xs) + 2 ^ m * bits_where p (drop k xs)) % 2 ^ n) (sym (length-take-le k xs le))
    ∙ ap (λ m. m % 2 ^ n) (bits-append p (take k xs) (drop k xs) ∙ ap (bits_where p) (take-append-drop k xs))
    ∙ bits_of_first p n xs

-- of the first n elements of a list, from the bits of its halves
pub bits_of_halves : (p : ℕ → Bool) (k n : ℕ) (xs : List ℕ) {low high bits : ℕ} → length xs ≡ k + k → low ≡ bits_where p (take k xs) → high ≡ bits_where p (take k (drop k xs))
    → bits ≡ (low + 2 ^ k * high) % 2 ^ n → bits ≡ bits_where p (take n xs)
bits_of_halves p k n xs long first second both =
    let rest : take k (drop k xs) ≡ drop k xs = take_all k (drop k xs) (omega (arith, length-drop k xs, long)) in
    both
    ∙ (λ i. (first i + 2 ^ k * (second ∙ ap (bits_where p) rest) i) % 2 ^ n)
    ∙ bits_joined p k n xs (omega (arith, long))

-- a vector's comparison with a splat
pub bits_of_lanes : (t : ℕ → ℕ → Bool) (key n : ℕ) (xs : List ℕ) → length xs ≡ n → n ≤ 64
    → mask_l (map (top (hbits w64)) (zip2 (λ a b. cond (t a b) (2 ^ bits w64 - 1) 0) (take n xs) (replicate n key))) % 2 ^ 64 ≡ bits_where (λ x. t x key) xs
bits_of_lanes t key n xs long le =
    let whole : take n xs ≡ xs = take_all n xs (omega (arith, long)) in
    rw whole (bitmask_splat w64 t xs n key long le)

pub bits_fit : (p : ℕ → Bool) (n : ℕ) (xs : List ℕ) → length xs ≡ n → bits_where p xs < 2 ^ n
bits_fit p n xs long = let P : ℕ → Type 0 = λ m. bits_where p xs < 2 ^ m in subst P (length-map xs p ∙ long) (mask_l-lt (map p xs))
