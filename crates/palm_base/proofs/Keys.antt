-- A prefix is packed in its key, and read out of it again.
use Rattle.std.proofs.Common.{◌≡◌, ℕ, zero, suc, ◌+◌, ◌-◌, ◌*◌, ◌/◌, ◌%◌, ◌^◌, ◌<◌, ◌≤◌, false, List, [], ◌∷◌, length, get_or, drop, refl, sym, ap, ◌∙◌, arith, zero-add, add-one}
use Rattle.std.specs.List.{AllByRecursion}
use Rattle.std.proofs.Math.Nat.{pow-suc, one-le-pow, mul-le-mul_right, mul_assoc, mul_comm, add-mul}
use Rattle.std.proofs.Math.Seq.{drop-cons}
use Rattle.std.proofs.lemmas.List.{length-map, drop_all}
use Rattle.std.proofs.lemmas.Nat.{div-mul-add, mod-mul-add, pow-add, shr-shr}
use Rattle.palm_base.specs.Prefix.{AreDigits, IsPrefix, digits_in, is_no_digit}
use Rattle.palm_base.specs.Key.{packed, key, groups, digits_of, IsKey}

-- Digits packed below the group k, with their number after them, leave room below the group above.
pub packed-room : (k : ℕ) (ds : List ℕ) → AreDigits ds → length ds ≤ k → packed k ds * 16 + length ds + 1 < 16 * 16 ^ k
packed-room zero [] a l = omega arith
packed-room (suc k) [] a l = let p : 0 < 16 ^ k = one-le-pow k 16 (omega arith) in rw pow-suc (omega arith)
packed-room zero (d ∷ ds) a l = absurd (omega arith)
packed-room (suc k) (d ∷ ds) a l =
    let rest = packed-room k ds a.1 (omega arith) in
    let first : d * 16 ^ k ≤ 9 * 16 ^ k = mul-le-mul_right (16 ^ k) (omega arith) in
    rw pow-suc (omega arith)

one_group_more : (m d t r : ℕ) → m * (t * 16) + (d * t + r) ≡ (m * 16 + d) * t + r
one_group_more m d t r = rw (add-mul (m * 16) d t, mul_assoc m 16 t, mul_comm 16 t) (omega arith)

-- The groups of packed digits are the digits, whatever stands above them.
pub groups-packed : (k m : ℕ) (ds : List ℕ) → AreDigits ds → length ds ≤ k → groups (length ds) k (m * 16 ^ k + packed k ds) ≡ ds
groups-packed k m [] a l = refl
groups-packed zero m (d ∷ ds) a l = absurd (omega arith)
groups-packed (suc k) m (d ∷ ds) a l =
    let w : ℕ = m * 16 ^ suc k + (d * 16 ^ k + packed k ds) in
    let below : packed k ds < 16 ^ k = let r = packed-room k ds a.1 (omega arith) in omega arith in
    let same : w ≡ (m * 16 + d) * 16 ^ k + packed k ds = rw pow-suc (one_group_more m d (16 ^ k) (packed k ds)) in
    let first : w / 16 ^ k % 16 ≡ d = rw (same, div-mul-add (m * 16 + d) (16 ^ k) (packed k ds) below) (mod-mul-add m 16 d (omega arith)) in
    let rest : groups (length ds) k w ≡ ds = rw same (groups-packed k (m * 16 + d) ds a.1 (omega arith)) in
    cc

-- A prefix is read out of its key.
pub digits_of-key : (ds : List ℕ) → IsPrefix ds → digits_of (key ds) ≡ ds
digits_of-key ds p =
    let few : length ds ≤ 15 = p.few in
    let count : (packed 15 ds * 16 + length ds) % 16 ≡ length ds = mod-mul-add (packed 15 ds) 16 (length ds) (omega arith) in
    let word : (packed 15 ds * 16 + length ds) / 16 ≡ packed 15 ds = div-mul-add (packed 15 ds) 16 (length ds) (omega arith) in
    rw (count, word) (rw zero-add at (groups-packed 15 0 ds p.small few))

-- A word that is a prefix's key.
pub is_key : (word : ℕ) (ds : List ℕ) → IsPrefix ds → word ≡ key ds → IsKey word
is_key word ds p e =
    let same : digits_of word ≡ ds = ap digits_of e ∙ digits_of-key ds p in
    record { prefix = rw same p; whole = ap key same ∙ sym e }

-- A digit of the groups, by its place.
groups-at : (n k word place : ℕ) → place < n → place < k → get_or (groups n k word) place 0 ≡ word / 16 ^ (k - 1 - place) % 16
groups-at zero k word place h l = absurd (omega arith)
groups-at (suc n) zero word place h l = absurd (omega arith)
groups-at (suc n) (suc k) word zero h l = ap (λ (i : ℕ). word / 16 ^ i % 16) (omega arith)
groups-at (suc n) (suc k) word (suc place) h l = groups-at n k word place (omega arith) (omega arith) ∙ ap (λ (i : ℕ). word / 16 ^ i % 16) (omega arith)

pub hex : (n : ℕ) → 16 ^ n ≡ 2 ^ (4 * n)
hex zero = refl
hex (suc n) =
    let more : 2 ^ (4 * suc n) ≡ 2 ^ (4 * n) * 16 = ap (λ (i : ℕ). 2 ^ i) (omega arith) ∙ pow-add 2 (4 * n) 4 in
    rw (pow-suc, hex n) (sym more)

-- The groups of a word, counted from the second lowest, are groups of its bits.
pub group-bits : (word i bits : ℕ) → 4 + 4 * i ≡ bits → word / 16 / 16 ^ i ≡ word / 2 ^ bits
group-bits word i bits e = ap (λ (w : ℕ). word / 16 / w) (hex i) ∙ shr-shr word 4 (4 * i) ∙ ap (λ (b : ℕ). word / 2 ^ b) e

digit-small : (ds : List ℕ) (place : ℕ) → AreDigits ds → get_or ds place 0 < 10
digit-small [] place a = omega arith
digit-small (d ∷ ds) zero a = a.0
digit-small (d ∷ ds) (suc place) a = digit-small ds place a.1

pub length-groups : (n k word : ℕ) → n ≤ k → length (groups n k word) ≡ n
length-groups zero k word h = refl
length-groups (suc n) zero word h = absurd (omega arith)
length-groups (suc n) (suc k) word h = ap suc (length-groups n k word (omega arith))

groups-short : (n k word : ℕ) → length (groups n k word) ≤ n
groups-short zero k word = omega arith
groups-short (suc n) zero word = omega arith
groups-short (suc n) (suc k) word = omega (arith, groups-short n k word)

groups-few : (n k word : ℕ) → length (groups n k word) ≤ k
groups-few zero k word = omega arith
groups-few (suc n) zero word = omega arith
groups-few (suc n) (suc k) word = omega (arith, groups-few n k word)

-- A digit of a word is a group of its bits.
pub digit_of_word : (word place : ℕ) (ds : List ℕ) → IsPrefix (digits_of word) → digits_of word ≡ ds → place < length ds
    → (word / 2 ^ (60 - 4 * place) % 16 ≡ get_or ds place 0) × (word / 2 ^ (60 - 4 * place) % 16 < 10)
digit_of_word word place ds p same inside =
    let n : ℕ = word % 16 in
    let short : length ds ≤ n = rw same at (groups-short n 15 (word / 16)) in
    let few : length ds ≤ 15 = rw same at (groups-few n 15 (word / 16)) in
    let down : word / 16 / 16 ^ (14 - place) ≡ word / 2 ^ (60 - 4 * place) = group-bits word (14 - place) (60 - 4 * place) (omega arith) in
    let at : get_or (digits_of word) place 0 ≡ word / 2 ^ (60 - 4 * place) % 16 = groups-at n 15 (word / 16) place (omega arith) (omega arith) ∙ ap (λ (w : ℕ). w % 16) down in
    let small : get_or (digits_of word) place 0 < 10 = digit-small (digits_of word) place p.small in
    (sym at ∙ ap (λ (l : List ℕ). get_or l place 0) same, rw at at small)

-- the digits of a text of digits
pub digits_in-small : (text : List ℕ) → AllByRecursion (λ b. is_no_digit b ≡ false) text → AreDigits (digits_in text)
digits_in-small [] h = tt
digits_in-small (b ∷ bs) h = (small b h.0, digits_in-small bs h.1)
  where
    small : (b : ℕ) → is_no_digit b ≡ false → b - 48 < 10
    small b h = grind arith

-- The key of digits fits a word.
pub packed-fits : (ds : List ℕ) → AreDigits ds → length ds ≤ 15 → packed 15 ds * 16 + length ds < 2 ^ 64
packed-fits ds a few = let room = packed-room 15 ds a few in omega arith

-- One digit more is packed: what is packed so far, with what is left, is all.
pub packed_more : (text : List ℕ) (i word weight digit all : ℕ) → i < length text → length text ≤ 15 → digit ≡ get_or text i 0 - 48 → weight ≡ 16 ^ (15 - i)
    → word + packed (15 - i) (digits_in (drop i text)) * 16 ≡ all
    → (word + digit * weight) + packed (15 - (i + 1)) (digits_in (drop (i + 1) text)) * 16 ≡ all
packed_more text i word weight digit all inside few digit-is weight-is so_far =
    let k : ℕ = 14 - i in
    let group : 15 - i ≡ suc k = omega arith in
    let next : 15 - (i + 1) ≡ k = omega arith in
    let rest : List ℕ = digits_in (drop (suc i) text) in
    let front : digits_in (drop i text) ≡ digit ∷ rest = rw digit-is (ap digits_in (drop-cons text i 0 inside)) in
    let opened : word + (digit * 16 ^ k + packed k rest) * 16 ≡ all = rw (group, front) at so_far in
    let product : digit * weight ≡ digit * 16 ^ k * 16 = rw (weight-is, group, pow-suc) (sym (mul_assoc digit (16 ^ k) 16)) in
    rw (next, add-one, product) (omega arith)

-- The weight of the next digit.
pub weight_more : (i weight : ℕ) → i < 15 → weight ≡ 16 ^ (15 - i) → weight / 16 ≡ 16 ^ (15 - (i + 1))
weight_more i weight inside weight-is =
    let group : 15 - i ≡ suc (15 - (i + 1)) = omega arith in
    let up : weight ≡ 16 ^ (15 - (i + 1)) * 16 = rw (weight-is, group, pow-suc) refl in
    omega arith

-- When nothing is left, all digits are packed.
pub packed_all : (text : List ℕ) (i word : ℕ) → length text ≤ i → word + packed (15 - i) (digits_in (drop i text)) * 16 ≡ packed 15 (digits_in text) * 16
    → word + length text ≡ key (digits_in text)
packed_all text i word past so_far =
    let none : digits_in (drop i text) ≡ [] = ap digits_in (drop_all i text past) in
    let opened : word + 0 ≡ packed 15 (digits_in text) * 16 = rw none at so_far in
    omega (arith, length-map {A = ℕ} {B = ℕ})

-- A text of 1 to 15 digits spells a prefix.
pub prefix_of_text : (text : List ℕ) → 1 ≤ length text → length text ≤ 15 → AllByRecursion (λ b. is_no_digit b ≡ false) text → IsPrefix (digits_in text)
prefix_of_text text some few all = record {
  some = rw length-map some;
  few = rw length-map few;
  small = digits_in-small text all;
}
