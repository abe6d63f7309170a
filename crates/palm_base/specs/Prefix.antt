-- Dialled prefixes: lists of 1 to 15 digits, their order, and how a text spells one.
use Rattle.std.specs.Prelude.{ℕ, ◌-◌, ◌<◌, ◌≤◌, Bool, true, false, ◌&&◌, ◌||◌, ◌==◌, nat_lt, if◌then◌else◌, List, [], ◌∷◌, ◌++◌, length, map, take, position, Option, Some, None, Result, Ok, Err, is_ok, codes, decimal}
use Rattle.std.specs.List.{AllByRecursion}
use Rattle.palm_base.specs.declared.digits.TheConstants.{MOST_DIGITS}
use Rattle.palm_base.specs.declared.digits.DigitsFault.{DigitsFault}
use Rattle.palm_base.specs.declared.digits.DigitsFault.TheVariants.{Empty, Long, NotDigit}

-- Each is 0 to 9. So 4, 0, 9 are digits, and 4, 10 aren't.
abbrev pub AreDigits : List ℕ → Type 0
AreDigits = AllByRecursion (λ d. d < 10)

-- 1 to 15 digits. So 4, 4 is a prefix, and the empty list isn't.
pub record IsPrefix (digits : List ℕ) : Type 0 where
  pub some : 1 ≤ length digits
  pub few : length digits ≤ MOST_DIGITS
  pub small : AreDigits digits

-- The first list begins the second. So 4 and 4, 4 begin 4, 4, 2, and 4, 2 doesn't.
abbrev pub begins : List ℕ → List ℕ → Bool
begins [] others = true
begins (d ∷ digits) [] = false
begins (d ∷ digits) (e ∷ others) = d == e && begins digits others

-- A prefix stands before another: it begins the other and is shorter, or has the smaller digit where they first differ.
-- So 1 stands before 1, 0, and 1, 9 before 2.
abbrev pub comes_before : List ℕ → List ℕ → Bool
comes_before [] [] = false
comes_before [] (e ∷ others) = true
comes_before (d ∷ digits) [] = false
comes_before (d ∷ digits) (e ∷ others) = nat_lt d e || (d == e && comes_before digits others)

-- The byte isn't one of '0' to '9'. So that of "a" isn't, and that of "7" is.
abbrev pub is_no_digit : ℕ → Bool
is_no_digit b = nat_lt b 48 || nat_lt 57 b

-- The digits that a text of digits spells. So "44" spells 4, 4.
abbrev pub digits_in : List ℕ → List ℕ
digits_in text = map (λ b. b - 48) text

-- What a text that isn't empty spells, where the first of its first 15 bytes that is no digit stands at this place. So of
-- "4a" with the place 1 it is the fault NotDigit 1, and of "44" with none it is 4, 4.
abbrev pub read_at : Option ℕ → List ℕ → Result (List ℕ) DigitsFault
read_at (Some place) text = Err (NotDigit place)
read_at None text = if nat_lt MOST_DIGITS (length text) then Err Long else Ok (digits_in text)

-- The prefix that a text spells, or the text's fault. So "44" spells 4, 4, and "4a" has the fault NotDigit 1.
abbrev pub read_of : List ℕ → Result (List ℕ) DigitsFault
read_of text =
    if length text == 0 then Err Empty else read_at (position is_no_digit (take MOST_DIGITS text)) text

-- A text spells 1 to 15 digits: a prefix, or a dialled number. So "044" does, and "4a" doesn't.
abbrev pub is_dialled : List ℕ → Bool
is_dialled text = is_ok (read_of text)

-- The text of a fault. So that of NotDigit 1 is "byte 1 is no digit".
abbrev pub fault_text : DigitsFault → List ℕ
fault_text Empty = codes "no digits"
fault_text Long = codes "more than " ++ (decimal MOST_DIGITS ++ codes " digits")
fault_text (NotDigit place) = codes "byte " ++ (decimal place ++ codes " is no digit")
