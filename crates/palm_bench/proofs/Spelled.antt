-- Texts of digits that read as prefixes.
use Rattle.std.proofs.Common.{◌≡◌, ◌≤◌, ℕ, List, Ok, false, length}
use Rattle.std.specs.List.{All}
use Rattle.palm_base.specs.Prefix.{digits_in, is_no_digit, read_of}
use Rattle.palm_base.proofs.Numerals.{all_digits-from_All, read_of-digits}

pub text_reads : (text : List ℕ) → 1 ≤ length text → length text ≤ 15 → All (λ b. is_no_digit b ≡ false) text → read_of text ≡ Ok (digits_in text)
text_reads text some few digits = read_of-digits text (record { some = some; digits = all_digits-from_All text digits }) few
