-- The words that are keys: their digits are below 10, and nothing stands after them but their number.
use Rattle.std.proofs.Common.{◌≡◌, ℕ, zero, suc, ◌+◌, ◌-◌, ◌*◌, ◌/◌, ◌%◌, ◌^◌, ◌<◌, ◌≤◌, nat_lt, Bool, true, List, length, refl, sym, ap, ◌∙◌, arith, zero-add}
use Rattle.std.specs.Bool.{Decides}
use Rattle.std.specs.List.{list_all, range_with_len}
use Rattle.std.proofs.Math.Nat.{mul-mod_left}
use Rattle.std.proofs.lemmas.Bool.Decides.{Decides-and, Decides-ltb}
use Rattle.std.proofs.lemmas.Nat.{div-mul-add, mod-mul-add, mod-pow-add, one_shl}
use Rattle.palm_base.specs.Prefix.{AreDigits, IsPrefix}
use Rattle.palm_base.specs.Key.{packed, key, groups, digits_of, IsKey}
use Rattle.palm_base.proofs.Keys.{hex, group-bits, length-groups, digits_of-key}
use Rattle.palm_base.proofs.Fronts.{packed-more}

-- Groups of a word in place, with what stands below them, are the word up to them.
packed-groups : (n k word : ℕ) → n ≤ k → packed k (groups n k word) + word % 16 ^ (k - n) ≡ word % 16 ^ k
packed-groups zero k word h =
    let all : k - 0 ≡ k = omega arith in
    rw (all, zero-add) refl
packed-groups (suc n) zero word h = absurd (omega arith)
packed-groups (suc n) (suc k) word h =
    let down : suc k - suc n ≡ k - n = omega arith in
    let rest = packed-groups n k word (omega arith) in
    let width : 2 ^ (4 + 4 * k) ≡ 16 ^ suc k = ap (λ (b : ℕ). 2 ^ b) (omega arith) ∙ sym (hex (suc k)) in
    let upper : word % 16 ^ suc k ≡ word / 16 ^ k % 16 * 16 ^ k + word % 16 ^ k = rw (width, ← hex k) at (mod-pow-add word 4 (4 * k)) in
    rw (down, upper) (omega arith)

-- A test of the bits of each group tells whether the groups are digits.
digits-test : (n k first word : ℕ) → n ≤ k → first + k ≡ 15
    → Decides (list_all (λ place. nat_lt (word / 2 ^ (60 - 4 * place) % 16) 10) (range_with_len first n)) (AreDigits (groups n k (word / 16)))
digits-test zero k first word h e = (λ _. tt, λ _. refl)
digits-test (suc n) zero first word h e = absurd (omega arith)
digits-test (suc n) (suc k) first word h e =
    let rest = digits-test n k (first + 1) word (omega arith) (omega arith) in
    rw (group-bits word k (60 - 4 * first) (omega arith)) (Decides-and _ _ (Decides-ltb (word / 2 ^ (60 - 4 * first) % 16) 10) rest)

-- The groups after the last digit's, counted from the second lowest.
abbrev pub after : ℕ → ℕ
after word = word / 16 % (1 * 2 ^ (60 - 4 * (word % 16)) % 2 ^ 64)

after-groups : (word : ℕ) → after word ≡ word / 16 % 16 ^ (15 - word % 16)
after-groups word =
    let bits : 2 ^ (60 - 4 * (word % 16)) ≡ 16 ^ (15 - word % 16) = ap (λ (b : ℕ). 2 ^ b) (omega arith) ∙ sym (hex (15 - word % 16)) in
    rw (one_shl (60 - 4 * (word % 16)) 64 (omega arith), bits) refl

-- What `are_digits` tells of a word.
abbrev pub digits-are_small : ℕ → Bool
digits-are_small word = list_all (λ place. nat_lt (word / 2 ^ (60 - 4 * place) % 16) 10) (range_with_len 0 (word % 16))

-- A word with some digits, each below 10, and nothing after them is a key.
pub key_of_word : (word : ℕ) → word < 2 ^ 64 → (word % 16 ≡ 0 → ⊥) → after word ≡ 0 → digits-are_small word ≡ true → IsKey word
key_of_word word fits some none small =
    let n : ℕ = word % 16 in
    let len : length (digits_of word) ≡ n = length-groups n 15 (word / 16) (omega arith) in
    let below : word / 16 % 16 ^ (15 - n) ≡ 0 = sym (after-groups word) ∙ none in
    let parts : packed 15 (digits_of word) + word / 16 % 16 ^ (15 - n) ≡ word / 16 % 16 ^ 15 = packed-groups n 15 (word / 16) (omega arith) in
    record {
      prefix = record {
        some = rw len (omega arith);
        few = rw len (omega arith);
        small = (digits-test n 15 0 word (omega arith) refl).0 small;
      };
      whole = rw len (omega arith);
    }

-- A key has nothing after its digits, and each is below 10.
pub word_of_key : (word : ℕ) (digits : List ℕ) → IsPrefix digits → key digits ≡ word → (after word ≡ 0) × (digits-are_small word ≡ true)
word_of_key word digits p e =
    let len : word % 16 ≡ length digits = ap (λ (w : ℕ). w % 16) (sym e) ∙ mod-mul-add (packed 15 digits) 16 (length digits) (omega (arith, p.few)) in
    let upper : word / 16 ≡ packed 15 digits = ap (λ (w : ℕ). w / 16) (sym e) ∙ div-mul-add (packed 15 digits) 16 (length digits) (omega (arith, p.few)) in
    let more = packed-more (length digits) 15 digits (omega arith) p.few in
    let same : digits_of word ≡ digits = ap digits_of (sym e) ∙ digits_of-key digits p in
    (after-groups word ∙ rw (upper, len, more) (mul-mod_left _ _), (digits-test (word % 16) 15 0 word (omega arith) refl).1 (rw same p.small))
