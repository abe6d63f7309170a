-- Numbers as texts spell them: fields of digits, with a value that must lie between two bounds.
use Rattle.std.specs.Prelude.{ℕ, nat_lt, nat_le, Bool, not, ◌&&◌, if◌then◌else◌, List, length, Option, Some, None}
use Rattle.std.specs.List.{list_all}
use Rattle.std.specs.Int.Digits.{number_from_digits}
use Rattle.palm_base.specs.Prefix.{digits_in, is_no_digit}
use Rattle.palm_base.specs.declared.amount.TheConstants.{MOST_RATE}
use Rattle.palm_base.specs.declared.number.TheConstants.{MOST_NUMBER_DIGITS}

-- The value of a field of digits. So that of "007" is 7.
abbrev pub value_of : List ℕ → ℕ
value_of field = number_from_digits 10 (digits_in field)

-- A number field: 1 to 20 digits (`MOST_NUMBER_DIGITS`). So "007" is one, and "+7" isn't.
abbrev pub is_number : List ℕ → Bool
is_number field = nat_lt 0 (length field) && nat_le (length field) MOST_NUMBER_DIGITS && list_all (λ b. not (is_no_digit b)) field

-- The value of a number field. So "007" is 7, and "+7" is no number.
abbrev pub number_of : List ℕ → Option ℕ
number_of field = if is_number field then Some (value_of field) else None

-- A number field whose value is from one number to another, both included. So "05" is one from 1 to 9, and "0" isn't.
abbrev pub is_from_to : ℕ → ℕ → List ℕ → Bool
is_from_to least most field = is_number field && nat_le least (value_of field) && nat_le (value_of field) most

-- A rate: a number field from 0 to MOST_RATE. So "007" is one, and "-7" and "1000000000000" aren't.
abbrev pub is_rate : List ℕ → Bool
is_rate field = is_from_to 0 MOST_RATE field

-- The value of a number field from one number to another. So that of "05" from 1 to 9 is 5, and "0" has none.
abbrev pub number_from_to : ℕ → ℕ → List ℕ → Option ℕ
number_from_to least most field = if is_from_to least most field then Some (value_of field) else None
