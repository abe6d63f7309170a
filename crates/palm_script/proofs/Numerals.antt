-- Texts of digits in lines: no blank stands in one, and none begins with another byte. So a blank ends it.
use Rattle.std.proofs.Common.{◌≡◌, ℕ, ◌<◌, ◌^◌, true, false, not, eqb, List, [], ◌∷◌, ◌++◌, get_or, All, decimal, refl, arith}
use Rattle.std.proofs.lemmas.Bool.{and_parts, ne_eqb}
use Rattle.std.proofs.lemmas.Fmt.{decimal_injective}
use Rattle.std.proofs.lemmas.List.Sums.{AllPass-from_list_all}
use Rattle.palm_base.specs.Prefix.{is_no_digit}
use Rattle.palm_base.proofs.Numerals.{IsDigitText, all_digits, decimal_text}
use Rattle.palm_script.specs.Line.{is_blank}

byte_no_blank : (b : ℕ) → not (is_no_digit b) ≡ true → is_blank b ≡ false
byte_no_blank b h = grind arith

-- it holds no blank
pub no_blank : (text : List ℕ) → IsDigitText text → All (λ b. is_blank b ≡ false) text
no_blank text h k d lt = byte_no_blank (get_or text k d) (AllPass-from_list_all (λ b. not (is_no_digit b)) text h.digits k d lt)

-- where a text of digits begins with a byte, the byte is a digit
first_is_other : (b other : ℕ) (bs : List ℕ) → all_digits (b ∷ bs) ≡ true → is_no_digit other ≡ true → b ≡ other → ⊥
first_is_other b other bs digits no_digit same = by (and_parts (not (is_no_digit b)) (all_digits bs) digits).0
  where
    by : not (is_no_digit b) ≡ true → ⊥
    by digit = cc

-- it begins with no other byte
pub other_first : (b other : ℕ) (bs : List ℕ) → IsDigitText (b ∷ bs) → is_no_digit other ≡ true → eqb b other ≡ false
other_first b other bs h no_digit = ne_eqb b other (first_is_other b other bs h.digits no_digit)

no_sign : (bs more rest : List ℕ) → IsDigitText bs → bs ++ more ≡ 61 ∷ rest → ⊥
no_sign [] more rest h e = omega (arith, h.some)
no_sign (b ∷ bs) more rest h e = first_is_other b 61 bs h.digits refl (cc)

-- A number is no '='.
pub number_is_no_sign : (n : ℕ) (more rest : List ℕ) → decimal n ++ more ≡ 61 ∷ rest → ⊥
number_is_no_sign n more rest e = no_sign (decimal n) more rest (decimal_text n) e

to_blank : (xs ys more rest : List ℕ) → all_digits xs ≡ true → all_digits ys ≡ true → xs ++ 32 ∷ more ≡ ys ++ 32 ∷ rest → xs ≡ ys
to_blank [] [] more rest x-digits y-digits e = refl
to_blank [] (y ∷ ys) more rest x-digits y-digits e = absurd (first_is_other y 32 ys y-digits refl (cc))
to_blank (x ∷ xs) [] more rest x-digits y-digits e = absurd (first_is_other x 32 xs x-digits refl (cc))
to_blank (x ∷ xs) (y ∷ ys) more rest x-digits y-digits e =
    let x-parts = and_parts (not (is_no_digit x)) (all_digits xs) x-digits in
    let y-parts = and_parts (not (is_no_digit y)) (all_digits ys) y-digits in
    let first : x ≡ y = cc in
    let others : xs ≡ ys = to_blank xs ys more rest x-parts.1 y-parts.1 (cc) in
    cc

-- A text that begins with a number and a blank begins with no other.
pub number_to_blank : (m n : ℕ) (more rest : List ℕ) → m < 2 ^ 64 → n < 2 ^ 64 → decimal m ++ 32 ∷ more ≡ decimal n ++ 32 ∷ rest → m ≡ n
number_to_blank m n more rest m-small n-small e =
    decimal_injective m n m-small n-small (to_blank (decimal m) (decimal n) more rest (decimal_text m).digits (decimal_text n).digits e)
