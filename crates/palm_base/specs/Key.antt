-- The word that a prefix is packed in: sixteen groups of four bits.
use Rattle.std.specs.Prelude.{◌≡◌, ℕ, ◌+◌, ◌*◌, ◌/◌, ◌%◌, ◌^◌, List, [], ◌∷◌, length}
use Rattle.std.proofs.Common.{zero, suc}
use Rattle.palm_base.specs.Prefix.{IsPrefix}

-- Digits in groups of four bits, the first in the group numbered k - 1 counted from the lowest.
-- So the digits 4, 4 from the group 15 down are 0x440000000000000.
abbrev pub packed : ℕ → List ℕ → ℕ
packed k [] = 0
packed zero (d ∷ digits) = 0
packed (suc k) (d ∷ digits) = d * 16 ^ k + packed k digits

-- The key of a prefix: its digits in the fifteen upper groups, and their number in the lowest.
-- So the key of 4, 4 is 0x4400000000000002.
abbrev pub key : List ℕ → ℕ
key digits = packed 15 digits * 16 + length digits

-- The n groups of a word from the group numbered k - 1 down. So the two of 0x44 from the group numbered 1 down are 4, 4.
abbrev pub groups : ℕ → ℕ → ℕ → List ℕ
groups zero k word = []
groups (suc n) zero word = []
groups (suc n) (suc k) word = (word / 16 ^ k % 16) ∷ groups n k word

-- The digits that a word packs: as many as its lowest group says. So 0x4400000000000002 packs 4, 4.
abbrev pub digits_of : ℕ → List ℕ
digits_of word = groups (word % 16) 15 (word / 16)

-- The word is the key of the prefix that it packs. So 0x4400000000000002 is one, and 0x4400000000000001 isn't, since it packs 4
-- alone, whose key is another.
pub record IsKey (word : ℕ) : Type 0 where
  pub prefix : IsPrefix (digits_of word)
  pub whole : key (digits_of word) ≡ word
