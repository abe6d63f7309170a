-- Digits that are written read as themselves.
use Rattle.std.proofs.Common.{◌≡◌, ℕ, zero, suc, ◌+◌, ◌-◌, ◌/◌, ◌%◌, ◌<◌, ◌≤◌, List, [], ◌∷◌, ◌++◌, length, take, drop, replicate, set, Ok, refl, sym, ap, ◌∙◌, arith}
use Rattle.std.proofs.Math.Seq.{take-add}
use Rattle.std.proofs.lemmas.List.{take-replicate, drop-replicate, map-append, length-append, length-replicate, take_more_set}
use Rattle.palm_base.specs.declared.digits.TheConstants.{MOST_DIGITS}
use Rattle.palm_base.specs.Prefix.{AreDigits, IsPrefix, read_of}
use Rattle.palm_base.specs.Text.{digits_text}
use Rattle.palm_base.proofs.Every.{every_append}
use Rattle.palm_base.proofs.Numerals.{read_of-digits_text}
use Rattle.palm_gen.specs.Generator.{last_digits}

-- ---- digits of a number, and a digit after them

last_are_digits : (n v : ℕ) → AreDigits (last_digits n v)
last_are_digits zero v = tt
last_are_digits (suc n) v = every_append (λ d. d < 10) (last_digits n (v / 10)) (v % 10 ∷ []) (last_are_digits n (v / 10)) (omega arith, tt)

length-last : (n v : ℕ) → length (last_digits n v) ≡ n
length-last zero v = refl
length-last (suc n) v = length-append (last_digits n (v / 10)) (v % 10 ∷ []) ∙ ap (λ k. k + 1) (length-last n (v / 10)) ∙ omega arith

same_are_digits : (times d : ℕ) → d < 10 → AreDigits (replicate times d)
same_are_digits zero d h = tt
same_are_digits (suc times) d h = (h, same_are_digits times d h)

are_prefix : (n v d times : ℕ) → 1 ≤ n → n + times ≤ MOST_DIGITS → d < 10 → IsPrefix (last_digits n v ++ replicate times d)
are_prefix n v d times some room small =
    let size : length (last_digits n v ++ replicate times d) ≡ n + times = length-append (last_digits n v) (replicate times d) ∙ (λ i. length-last n v i + length-replicate times d i) in
    record {
      some = omega (arith, size, some);
      few = omega (arith, size, room);
      small = every_append (λ d. d < 10) (last_digits n v) (replicate times d) (last_are_digits n v) (same_are_digits times d small);
    }

-- ---- a text that begins with the digits of a number

-- with its last digit they are one more
pub one_more : (text new : List ℕ) (n v b : ℕ) → n < length text → new ≡ set text n b → b ≡ 48 + v % 10 → take n text ≡ digits_text (last_digits n (v / 10)) → take (suc n) new ≡ digits_text (last_digits (suc n) v)
one_more text new n v b inside new-is b-is front =
    let more : suc n ≡ n + 1 = omega arith in
    let last : b ≡ v % 10 + 48 = omega (arith, b-is) in
    ap (λ k. take k new) more ∙ ap (take (n + 1)) new-is ∙ take_more_set text n b inside ∙ (λ i. front i ++ last i ∷ []) ∙ sym (map-append (λ d. d + 48) (last_digits n (v / 10)) (v % 10 ∷ []))

same_text : (times d : ℕ) → replicate times (d + 48) ≡ digits_text (replicate times d)
same_text zero d = refl
same_text (suc times) d = ap (λ (l : List ℕ). (d + 48) ∷ l) (same_text times d)

front_is : (n v d b times : ℕ) (text : List ℕ) → b ≡ d + 48 → n + times ≤ MOST_DIGITS → take n text ≡ digits_text (last_digits n v) → drop n text ≡ drop n (replicate MOST_DIGITS b)
    → take (n + times) text ≡ digits_text (last_digits n v ++ replicate times d)
front_is n v d b times text byte room front rest =
    take-add n times text ∙ (λ i. front i ++ take times (rest i))
    ∙ ap (λ (l : List ℕ). digits_text (last_digits n v) ++ l) (ap (take times) (drop-replicate n MOST_DIGITS b) ∙ take-replicate times (MOST_DIGITS - n) b (omega arith) ∙ ap (replicate times) byte ∙ same_text times d)
    ∙ sym (map-append (λ d. d + 48) (last_digits n v) (replicate times d))

pub all_read : (n v d b times : ℕ) (text : List ℕ) → b ≡ d + 48 → 1 ≤ n → n + times ≤ MOST_DIGITS → d < 10 → take n text ≡ digits_text (last_digits n v) → drop n text ≡ drop n (replicate MOST_DIGITS b)
    → read_of (take (n + times) text) ≡ Ok (last_digits n v ++ replicate times d)
all_read n v d b times text byte some room small front rest =
    ap read_of (front_is n v d b times text byte room front rest) ∙ read_of-digits_text (last_digits n v ++ replicate times d) (are_prefix n v d times some room small)
