-- Jumps from one front of a number to a shorter one.
use Rattle.std.specs.Prelude.{◌≡◌, ℕ, ◌<◌, ◌≤◌, List, length}
use Rattle.palm_base.specs.Prefix.{IsPrefix}
use Rattle.palm_base.specs.Fronts.{first_front}
use Rattle.palm_base.specs.declared.row.Row.{Row}
use Rattle.palm_tree.specs.declared.floor.Jump.{Jump}
use Rattle.palm_tree.specs.declared.floor.Jump.TheVariants.{Done, To}

-- The number has a front of so many digits. So 442 has fronts of 1, 2 and 3.
pub record IsFrontOf (n : ℕ) (number : List ℕ) : Type 0 where
  pub prefix : IsPrefix number
  pub some : 1 ≤ n
  pub few : n ≤ length number

-- A shorter front finds the same row, since no longer one has a row. So of 442 that of 2 digits is shorter than that of 3.
pub record IsShorter (rows : List Row) (number : List ℕ) (n shorter : ℕ) : Type 0 where
  pub some : 1 ≤ shorter
  pub less : shorter < n
  pub same : first_front n number rows ≡ first_front shorter number rows

-- What a front of so many digits comes to: the row that is found from it on, or that there is none, or a shorter front that
-- finds the same. So where 4 and 45 are rows, 3 digits of 442 come to the front of 1 digit, since 45 is past 442.
abbrev pub IsJump : List Row → List ℕ → ℕ → Jump → Type 0
IsJump rows number n (Done found) = found ≡ first_front n number rows
IsJump rows number n (To shorter) = IsShorter rows number n shorter
