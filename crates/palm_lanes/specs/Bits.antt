-- Tests of a list's elements, as the bits of one number.
use Rattle.std.specs.Prelude.{ℕ, Bool, List, map}
use lib.Lanes.{mask_l}

-- The number whose bit i, counted from the lowest, is 1 exactly where the element at i passes the test.
-- So the bits of 'is at most 4' among 3, 9 and 4 make 5.
abbrev pub bits_where : (ℕ → Bool) → List ℕ → ℕ
bits_where passes xs = mask_l (map passes xs)
