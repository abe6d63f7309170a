-- The first digits of a packed prefix are the upper groups of its word.
use Rattle.std.proofs.Common.{◌≡◌, ℕ, zero, suc, ◌+◌, ◌-◌, ◌*◌, ◌/◌, ◌%◌, ◌^◌, ◌<◌, ◌≤◌, ◌==◌, Bool, true, false, ◌&&◌, List, [], ◌∷◌, length, take, length-take-le, take_all, refl, sym, ap, ◌∙◌, arith, zero-mul}
use Rattle.std.specs.Bool.{Decides}
use Rattle.std.proofs.Math.Nat.{pow-suc, one-le-pow, mul_assoc, add-mul, div-eq_of_lt, mul-add-div_right, mod-eq_of_lt}
use Rattle.std.proofs.lemmas.Bool.Decides.{same_from_decides, Decides-eqb, Decides-and, Decides-like}
use Rattle.std.proofs.lemmas.Bool.{false≢true, le-ltb, eq-eqb}
use Rattle.std.proofs.lemmas.Nat.{div-mul-add, pow-add}
use Rattle.palm_base.specs.Prefix.{AreDigits, IsPrefix, begins, comes_before}
use Rattle.palm_base.specs.Key.{packed, key, groups}
use Rattle.palm_base.proofs.Keys.{packed-room, packed-fits, groups-packed, hex, group-bits}

power-split : (n k : ℕ) → n ≤ k → 16 ^ k ≡ 16 ^ n * 16 ^ (k - n)
power-split n k h = ap (λ (i : ℕ). 16 ^ i) (omega arith) ∙ pow-add 16 n (k - n)

-- The upper groups of packed digits are the first digits.
packed-take : (n k : ℕ) (ds : List ℕ) → AreDigits ds → n ≤ length ds → length ds ≤ k → packed k ds / 16 ^ (k - n) ≡ packed n (take n ds)
packed-take zero k ds a h l =
    let below : packed k ds < 16 ^ k = let room = packed-room k ds a l in omega arith in
    let all : k - 0 ≡ k = omega arith in
    rw all (div-eq_of_lt below)
packed-take (suc n) k [] a h l = absurd (omega arith)
packed-take (suc n) zero (d ∷ ds) a h l = absurd (omega arith)
packed-take (suc n) (suc k) (d ∷ ds) a h l =
    let down : suc k - suc n ≡ k - n = omega arith in
    let some : 0 < 16 ^ (k - n) = one-le-pow (k - n) 16 (omega arith) in
    let split : d * 16 ^ k ≡ d * 16 ^ n * 16 ^ (k - n) = rw (power-split n k (omega arith)) (sym (mul_assoc d (16 ^ n) (16 ^ (k - n)))) in
    rw (down, split, mul-add-div_right some (d * 16 ^ n) (packed k ds), packed-take n k ds a.1 (omega arith) (omega arith)) refl

-- Digits packed in more groups stand in the upper ones.
pub packed-more : (n k : ℕ) (ds : List ℕ) → length ds ≤ n → n ≤ k → packed k ds ≡ packed n ds * 16 ^ (k - n)
packed-more n k [] l h = rw zero-mul refl
packed-more zero k (d ∷ ds) l h = absurd (omega arith)
packed-more (suc n) zero (d ∷ ds) l h = absurd (omega arith)
packed-more (suc n) (suc k) (d ∷ ds) l h =
    let down : suc k - suc n ≡ k - n = omega arith in
    let first : d * 16 ^ k ≡ d * 16 ^ n * 16 ^ (k - n) = rw (power-split n k (omega arith)) (sym (mul_assoc d (16 ^ n) (16 ^ (k - n)))) in
    rw (down, add-mul, first, packed-more n k ds (omega arith) (omega arith)) refl

digits-take : (n : ℕ) (ds : List ℕ) → AreDigits ds → AreDigits (take n ds)
digits-take zero ds a = tt
digits-take (suc n) [] a = tt
digits-take (suc n) (d ∷ ds) a = (a.0, digits-take n ds a.1)

-- Shifting a key down leaves the groups of the first digits.
pub upper-groups : (n : ℕ) (ds : List ℕ) → IsPrefix ds → 1 ≤ n → n ≤ length ds → key ds / 2 ^ (64 - 4 * n) ≡ packed n (take n ds)
upper-groups n ds p some h =
    let few : length ds ≤ 15 = p.few in
    let word : key ds / 16 ≡ packed 15 ds = div-mul-add (packed 15 ds) 16 (length ds) (omega arith) in
    let down : key ds / 16 / 16 ^ (15 - n) ≡ key ds / 2 ^ (64 - 4 * n) = group-bits (key ds) (15 - n) (64 - 4 * n) (omega arith) in
    sym down ∙ ap (λ (w : ℕ). w / 16 ^ (15 - n)) word ∙ packed-take n 15 ds p.small h few

-- The first digits of a prefix are a prefix.
pub front-is_prefix : (n : ℕ) (ds : List ℕ) → IsPrefix ds → 1 ≤ n → n ≤ length ds → IsPrefix (take n ds)
front-is_prefix n ds p some h = record {
  some = rw (length-take-le n ds h) some;
  few = rw (length-take-le n ds h) (omega (arith, p.few));
  small = digits-take n ds p.small;
}

-- The upper groups, with the number of digits in the lowest, are the key of the first digits.
pub front-key : (n : ℕ) (ds : List ℕ) → IsPrefix ds → 1 ≤ n → n ≤ length ds → (key ds / 2 ^ (64 - 4 * n) * 2 ^ (64 - 4 * n)) % 2 ^ 64 + n ≡ key (take n ds)
front-key n ds p some h =
    let t : List ℕ = take n ds in
    let q : IsPrefix t = front-is_prefix n ds p some h in
    let len : length t ≡ n = length-take-le n ds h in
    let few : length ds ≤ 15 = p.few in
    let groups-up : 2 ^ (64 - 4 * n) ≡ 16 ^ (15 - n) * 16 = ap (λ (i : ℕ). 2 ^ i) (omega arith) ∙ sym (hex (suc (15 - n))) ∙ pow-suc 16 (15 - n) in
    let whole : packed n t * 2 ^ (64 - 4 * n) ≡ packed 15 t * 16 =
    rw (groups-up, packed-more n 15 t (omega arith) (omega arith)) (sym (mul_assoc (packed n t) (16 ^ (15 - n)) 16)) in
    let fits : packed 15 t * 16 < 2 ^ 64 = omega (arith, packed-fits t q.small q.few) in
    rw (upper-groups n ds p some h, whole, mod-eq_of_lt fits, len) refl

-- A list begins another exactly where it is the other's first elements.
pub begins-take : (ps ds : List ℕ) → Decides (begins ps ds) (ps ≡ take (length ps) ds)
begins-take [] ds = (λ _. refl, λ _. refl)
begins-take (d ∷ ps) [] = (λ e. absurd (false≢true e), λ e. cc)
begins-take (d ∷ ps) (e ∷ ds) = Decides-like (d == e && begins ps ds) (λ h. joined h.0 h.1) (λ h. (cc, cc)) (Decides-and (d == e) (begins ps ds) (Decides-eqb d e) (begins-take ps ds))
  where
    joined : d ≡ e → ps ≡ take (length ps) ds → d ∷ ps ≡ e ∷ take (length ps) ds
    joined h i = cc

-- Two lists of n digits that are packed alike are one.
same_from_packed : (n : ℕ) (xs ys : List ℕ) → AreDigits xs → AreDigits ys → length xs ≡ n → length ys ≡ n → packed n xs ≡ packed n ys → xs ≡ ys
same_from_packed n xs ys a b l m e =
    let out-xs : groups n n (0 * 16 ^ n + packed n xs) ≡ xs = rw l at (groups-packed n 0 xs a (omega arith)) in
    let out-ys : groups n n (0 * 16 ^ n + packed n ys) ≡ ys = rw m at (groups-packed n 0 ys b (omega arith)) in
    cc

-- A prefix begins another exactly where their keys have the same groups at the first one's digits.
begins-groups : (ps ds : List ℕ) → IsPrefix ps → IsPrefix ds → length ps ≤ length ds
    → Decides (begins ps ds) (key ps / 2 ^ (64 - 4 * length ps) ≡ key ds / 2 ^ (64 - 4 * length ps))
begins-groups ps ds p q h =
    let n : ℕ = length ps in
    let t : List ℕ = take n ds in
    let own : key ps / 2 ^ (64 - 4 * n) ≡ packed n ps = upper-groups n ps p p.some (omega arith) ∙ ap (packed n) (take_all n ps (omega arith)) in
    let other : key ds / 2 ^ (64 - 4 * n) ≡ packed n t = upper-groups n ds q p.some h in
    let same = same_from_packed n ps t p.small (digits-take n ds q.small) refl (length-take-le n ds h) in
    Decides-like (begins ps ds) (λ e. own ∙ ap (packed n) e ∙ sym other) (λ e. same (sym own ∙ e ∙ other)) (begins-take ps ds)

-- The same at the words that hold the keys.
pub begins-test : (ps ds : List ℕ) (word other : ℕ) → IsPrefix ps → IsPrefix ds → key ps ≡ word → key ds ≡ other → length ps ≤ length ds
    → (word / 2 ^ (64 - 4 * length ps) == other / 2 ^ (64 - 4 * length ps)) ≡ begins ps ds
begins-test ps ds word other p q e f h =
    let same = same_from_decides (key ps / 2 ^ (64 - 4 * length ps) == key ds / 2 ^ (64 - 4 * length ps)) (begins ps ds) (Decides-eqb _ _) (begins-groups ps ds p q h) in
    rw (e, f) at same

-- A list begins no shorter one.
pub begins-long : (ps ds : List ℕ) → length ds < length ps → false ≡ begins ps ds
begins-long [] ds h = absurd (omega arith)
begins-long (d ∷ ps) [] h = refl
begins-long (d ∷ ps) (e ∷ ds) h = by (d == e) (begins-long ps ds (omega arith))
  where
    by : (b : Bool) → false ≡ begins ps ds → false ≡ (b && begins ps ds)
    by true rest = rest
    by false rest = refl

-- A shorter front of a list comes before a longer one.
pub fronts_rise : (m n : ℕ) (number : List ℕ) → m < n → n ≤ length number → comes_before (take m number) (take n number) ≡ true
fronts_rise m zero number less few = absurd (omega arith)
fronts_rise m (suc n) [] less few = absurd (omega arith)
fronts_rise zero (suc n) (e ∷ number) less few = refl
fronts_rise (suc m) (suc n) (e ∷ number) less few = rw (le-ltb e e (omega arith), eq-eqb e e refl) (fronts_rise m n number (omega arith) (omega arith))
