-- Texts of digits: what a number is written as in decimal, and what a prefix is spelled by. They read as what they spell.
use Rattle.std.proofs.Common.{◌≡◌, ℕ, zero, suc, ◌+◌, ◌-◌, ◌/◌, ◌%◌, ◌<◌, ◌≤◌, ◌^◌, ◌&&◌, Bool, true, false, not, cond, eqb, ltb, leb, List, [], ◌∷◌, length, take, All, Some, None, Ok, Err, refl, ap, ◌∙◌, arith, rules}
use Rattle.std.specs.List.{list_all, position, position_or_len}
use Rattle.std.specs.Fmt.{decimal, digits, digits_onto, digit_glyph}
use Rattle.std.specs.Int.Digits.{number_from_digits_after}
use Rattle.std.proofs.lemmas.Bool.{and_parts, lt-ltb, le-leb, le-ltb, ne_eqb}
use Rattle.std.proofs.lemmas.Fmt.{digits_value-decimal, length-decimal-le}
use Rattle.std.proofs.lemmas.List.{take_all, length-map}
use Rattle.std.proofs.lemmas.List.Sums.{list_all-from_AllPass}
use Rattle.std.proofs.lemmas.Nat.{mod_below}
use Rattle.std.proofs.lemmas.Str.Parse.{IsNumeralModel, numerals_by_fold}
use Rattle.palm_base.specs.declared.digits.TheConstants.{MOST_DIGITS}
use Rattle.palm_base.specs.declared.digits.DigitsFault.TheVariants.{Empty, Long}
use Rattle.palm_base.specs.declared.number.TheConstants.{MOST_NUMBER_DIGITS}
use Rattle.palm_base.specs.Numbers.{value_of, is_number, is_from_to}
use Rattle.palm_base.specs.Prefix.{AreDigits, IsPrefix, is_no_digit, digits_in, read_of, read_at}
use Rattle.palm_base.specs.Text.{digits_text}

-- each byte of a text is a digit
abbrev pub all_digits : List ℕ → Bool
all_digits text = list_all (λ b. not (is_no_digit b)) text

-- a text of one digit or more
pub record IsDigitText (text : List ℕ) : Type 0 where
  pub some : 0 < length text
  pub digits : all_digits text ≡ true

-- Where no byte is other than a digit, each is one.
pub all_digits-from_All : (text : List ℕ) → All (λ b. is_no_digit b ≡ false) text → all_digits text ≡ true
all_digits-from_All text all = list_all-from_AllPass (λ b. not (is_no_digit b)) text (λ k d within. ap not (all k d within))

-- ---- numbers in decimal

glyph_is_digit : (n : ℕ) → not (is_no_digit (digit_glyph false (n % 10))) ≡ true
glyph_is_digit n =
    let below : n % 10 < 10 = mod_below n 10 (omega arith) in
    rw (lt-ltb (n % 10) 10 below) (spelled (n % 10) below)
  where
    spelled : (d : ℕ) → d < 10 → not (is_no_digit (48 + d)) ≡ true
    spelled d h = grind arith

-- a digit before a text of digits
digit_before : (n : ℕ) (text : List ℕ) → all_digits text ≡ true → IsDigitText (digit_glyph false (n % 10) ∷ text)
digit_before n text all = record { some = omega arith; digits = ap (λ b. b && all_digits text) (glyph_is_digit n) ∙ all }

either_text : (b : Bool) (xs ys : List ℕ) → IsDigitText xs → IsDigitText ys → IsDigitText (cond b xs ys)
either_text true xs ys p q = p
either_text false xs ys p q = q

onto_text : (k n : ℕ) (text : List ℕ) → IsDigitText text → IsDigitText (digits_onto k 10 false n text)
onto_text zero n text h = h
onto_text (suc k) n text h =
    let more = digit_before n text h.digits in
    let front = digit_glyph false (n % 10) ∷ text in
    either_text (eqb (n / 10) 0) front (digits_onto k 10 false (n / 10) front) more (onto_text k (n / 10) front more)

-- A number is written as one digit or more, and nothing else.
pub decimal_text : (n : ℕ) → IsDigitText (decimal n)
unfolding digits
decimal_text n =
    let last = digit_before n [] refl in
    let front = digit_glyph false (n % 10) ∷ [] in
    either_text (eqb (n / 10) 0) front (digits_onto 63 10 false (n / 10) front) last (onto_text 63 (n / 10) front last)

own : IsNumeralModel (λ text. all_digits text ≡ true) value_of
own = numerals_by_fold _ (search rules) (λ n text. number_from_digits_after 10 n (digits_in text)) (search rules)

pub value_of-decimal : (n : ℕ) → n < 2 ^ 64 → value_of (decimal n) ≡ n
value_of-decimal n small = digits_value-decimal own n small

pub length-decimal : (n : ℕ) → n < 2 ^ 64 → length (decimal n) ≤ MOST_NUMBER_DIGITS
length-decimal n small = length-decimal-le MOST_NUMBER_DIGITS n (omega arith) (omega arith) small

is_number-decimal : (n : ℕ) → n < 2 ^ 64 → is_number (decimal n) ≡ true
is_number-decimal n small =
    let text = decimal_text n in
    let some : ltb 0 (length (decimal n)) ≡ true = lt-ltb 0 (length (decimal n)) text.some in
    let few : leb (length (decimal n)) MOST_NUMBER_DIGITS ≡ true = le-leb (length (decimal n)) MOST_NUMBER_DIGITS (length-decimal n small) in
    rw (some, few) text.digits

pub is_from_to-decimal : (least most n : ℕ) → n < 2 ^ 64 → least ≤ n → n ≤ most → is_from_to least most (decimal n) ≡ true
is_from_to-decimal least most n small low high =
    let above : leb least n ≡ true = le-leb least n low in
    let below : leb n most ≡ true = le-leb n most high in
    rw (is_number-decimal n small, value_of-decimal n small, above, below) refl

-- ---- digits of prefixes

byte_is : (d : ℕ) → d < 10 → is_no_digit (d + 48) ≡ false
byte_is d h = grind arith

all_digits-digits_text : (ds : List ℕ) → AreDigits ds → all_digits (digits_text ds) ≡ true
all_digits-digits_text [] h = refl
all_digits-digits_text (d ∷ ds) h = rw (byte_is d h.0) (all_digits-digits_text ds h.1)

pub length-digits_text : (ds : List ℕ) → length (digits_text ds) ≡ length ds
length-digits_text ds = length-map ds (λ d. d + 48)

-- A prefix is spelled by one digit or more, and nothing else.
pub prefix_text : (ds : List ℕ) → IsPrefix ds → IsDigitText (digits_text ds)
prefix_text ds h = record { some = omega (arith, length-digits_text ds, h.some); digits = all_digits-digits_text ds h.small }

pub digits_in-digits_text : (ds : List ℕ) → digits_in (digits_text ds) ≡ ds
digits_in-digits_text [] = refl
digits_in-digits_text (d ∷ ds) = (λ i. one i ∷ digits_in-digits_text ds i)
  where
    one : (d + 48) - 48 ≡ d
    one = omega arith

-- in a text of digits no other byte stands
no_other : (text : List ℕ) → all_digits text ≡ true → position_or_len is_no_digit text ≡ length text
no_other [] h = refl
no_other (b ∷ text) h =
    let parts = and_parts (not (is_no_digit b)) (all_digits text) h in
    rw parts.0 (omega (arith, no_other text parts.1))

-- A text of 1 to 15 digits is read as the digits that stand in it.
pub read_of-digits : (text : List ℕ) → IsDigitText text → length text ≤ MOST_DIGITS → read_of text ≡ Ok (digits_in text)
read_of-digits text h few =
    let whole : take MOST_DIGITS text ≡ text = take_all MOST_DIGITS text few in
    let none : position is_no_digit (take MOST_DIGITS text) ≡ None =
    ap (position is_no_digit) whole ∙ ap (λ k. cond (ltb k (length text)) (Some k) None) (no_other text h.digits) ∙ ap (λ b. cond b (Some (length text)) None) (le-ltb (length text) (length text) (omega arith)) in
    ap (λ b. cond b (Err Empty) (read_at (position is_no_digit (take MOST_DIGITS text)) text)) (ne_eqb (length text) 0 (λ e. omega (arith, h.some)))
    ∙ ap (λ o. read_at o text) none ∙ ap (λ b. cond b (Err Long) (Ok (digits_in text))) (le-ltb MOST_DIGITS (length text) few)

pub read_of-digits_text : (ds : List ℕ) → IsPrefix ds → read_of (digits_text ds) ≡ Ok ds
read_of-digits_text ds h =
    read_of-digits (digits_text ds) (prefix_text ds h) (omega (arith, length-digits_text ds, h.few)) ∙ ap (λ (l : List ℕ). Ok l) (digits_in-digits_text ds)
