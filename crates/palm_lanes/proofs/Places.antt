-- From the bits of a test to the places at which a list's elements pass it.
use Rattle.std.proofs.Common.{◌≡◌, ◌==◌, ◌<◌, ◌^◌, ℕ, zero, suc, Bool, true, false, cond, List, [], ◌∷◌, map, length, nat_lt, ◌≤◌, get_or, Some, slice_get, refl, ap, sym, ◌∙◌, arith}
use Rattle.std.specs.Prelude.{Contains, None, position}
use Rattle.std.specs.List.{position_or_len}
use Rattle.std.proofs.lemmas.Option.{slice_get_within}
use Rattle.std.specs.Int.{bit_at, trailing_zeros}
use Rattle.std.proofs.lemmas.Nat.Bits.{bit_at-zero, bit_at-trailing_zeros}
use Rattle.std.proofs.lemmas.List.{get_or-map}
use Rattle.std.proofs.lemmas.Bool.{eqb-true, eq-eqb, cond-true, cond-false, lt-ltb, le-ltb}
use Rattle.std.proofs.lemmas.Simd.{bit_mask_l, trailing_mask_l, leading_from_mask_l}
use mir.Syntax.{w64}
use Rattle.palm_lanes.specs.Bits.{bits_where}

is_set : (b : Bool) → ◌≡◌ {A = ℕ} (cond b 1 0) 1 → b ≡ true
is_set true one = refl
is_set false one = absurd (omega (arith, one))

passes_at : (p : ℕ → Bool) (xs : List ℕ) (i : ℕ) → get_or (map p xs) i false ≡ true → (x : ℕ) × (slice_get xs i ≡ Some x) × (p x ≡ true)
passes_at p [] i passed = absurd cc
passes_at p (x ∷ xs) zero passed = (x, refl, passed)
passes_at p (x ∷ xs) (suc i) passed = passes_at p xs i passed

-- a bit that is 1 stands at the place of an element that passes
pub passes_where_set : (p : ℕ → Bool) (xs : List ℕ) (i : ℕ) → bit_at (bits_where p xs) i ≡ 1 → (x : ℕ) × (slice_get xs i ≡ Some x) × (p x ≡ true)
passes_where_set p xs i one = passes_at p xs i (is_set (get_or (map p xs) i false) (sym (bit_mask_l (map p xs) i) ∙ one))

-- the lowest bit of 'is the key' stands at the key's place
pub key_at_lowest : (key : ℕ) (xs : List ℕ) (bits : ℕ) → bits ≡ bits_where (λ k. k == key) xs → 0 < bits → bits < 2 ^ 64 → slice_get xs (trailing_zeros w64 bits) ≡ Some key
key_at_lowest key xs bits e some fits =
    let i = trailing_zeros w64 bits in
    let one : bit_at (bits_where (λ k. k == key) xs) i ≡ 1 = ap (λ n. bit_at n i) (sym e) ∙ (bit_at-trailing_zeros w64 bits some fits).1 in
    let found = passes_where_set (λ k. k == key) xs i one in
    found.1 ∙ ap Some (eqb-true found.0 key found.2)

-- the lowest bit stands at the first place that passes
pub first_at_lowest : (p : ℕ → Bool) (xs : List ℕ) (bits x : ℕ) → bits ≡ bits_where p xs → 0 < bits → length xs ≤ 64 → slice_get xs (trailing_zeros w64 bits) ≡ Some x → Some (trailing_zeros w64 bits) ≡ position p xs
first_at_lowest p xs bits x e some long found =
    let first : trailing_zeros w64 bits ≡ position_or_len p xs = ap (trailing_zeros w64) e ∙ trailing_mask_l p 64 xs long (omega (arith, e)) in
    let inside : position_or_len p xs < length xs = omega (arith, first, slice_get_within xs (trailing_zeros w64 bits) x found) in
    ap Some first ∙ sym (cond-true (nat_lt (position_or_len p xs) (length xs)) (Some (position_or_len p xs)) None (lt-ltb (position_or_len p xs) (length xs) inside))

-- where no bit is 1, no place passes
pub first_where_zero : (p : ℕ → Bool) (xs : List ℕ) → bits_where p xs ≡ 0 → None ≡ position p xs
first_where_zero p xs none =
    let past : position_or_len p xs ≡ length xs = leading_from_mask_l p xs none in
    sym (cond-false (nat_lt (position_or_len p xs) (length xs)) (Some (position_or_len p xs)) None (le-ltb (position_or_len p xs) (length xs) (omega (arith, past))))

-- where no bit of 'is the key' is 1, the key is at no place
pub no_key_where_zero : (key : ℕ) (xs : List ℕ) → bits_where (λ k. k == key) xs ≡ 0 → Contains xs key → ⊥
no_key_where_zero key xs none at =
    let i = at.0 in
    let one : ◌≡◌ {A = ℕ} (cond (get_or (map (λ k. k == key) xs) i false) 1 0) 1 = ap (λ (b : Bool). cond b 1 0) (get_or-map (λ k. k == key) xs i key false at.1 ∙ eq-eqb (get_or xs i key) key at.2) in
    omega (arith, one, sym (bit_mask_l (map (λ k. k == key) xs) i), ap (λ n. bit_at n i) none, bit_at-zero i)
