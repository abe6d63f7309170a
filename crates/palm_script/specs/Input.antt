-- What was read of a source.
use Rattle.std.specs.Prelude.{Bool, true, false, ◌≡◌, ℕ, List, ◌++◌, length}
use Rattle.std.specs.Io.KnownBytes.{Consumes, IsAtEnd}
use Rattle.std.specs.declared.option.Option.{Option}
use Rattle.palm_script.specs.declared.input.TheConstants.{MOST_BYTES}
use Rattle.palm_script.specs.declared.input.InputEnd.{InputEnd}
use Rattle.palm_script.specs.declared.input.InputEnd.TheVariants.{Whole, Failed, Long}
use Rattle.palm_script.specs.Causes.{Rose}

-- From a source that had `left` and now has `rest`, where told, these bytes were read, with its counts of faults before and
-- now: all that it had, or what came before it failed, or as many as are taken and then the byte too many.
-- So with the counts 3 and 3, a source that had 5, 6 and has none left was read as 5, 6 and Whole; and with 3 and 4, one that
-- has 6 left as 5 and Failed.
abbrev pub IsRead : (left rest : Option (List ℕ)) (before now : ℕ) (bytes : List ℕ) → InputEnd → Type 0
IsRead left rest before now bytes Whole = Consumes left rest bytes × IsAtEnd rest × (now ≡ before)
IsRead left rest before now bytes Failed = Consumes left rest bytes × Rose before now
IsRead left rest before now bytes Long = (more : List ℕ) × Consumes left rest (bytes ++ more) × (length bytes ≡ MOST_BYTES) × (length more ≡ 1) × (now ≡ before)

-- The source was read to its end. So it was with Whole, and wasn't with Failed or Long.
abbrev pub is_whole : InputEnd → Bool
is_whole Whole = true
is_whole Failed = false
is_whole Long = false
