-- How much of a transcript is written, how much of a text a sink has taken, and how much was read of a source.
use Rattle.std.specs.Prelude.{◌≡◌, ℕ, ◌+◌, ◌-◌, ◌^◌, ◌<◌, ◌≤◌, Bool, if◌then◌else◌, List, length, take, Option}
use Rattle.std.specs.Io.KnownBytes.{Appends, Consumes}
use Rattle.palm_script.specs.Transcript.{Section, text_of, final_of}
use Rattle.palm_script.specs.declared.dump.DumpWhen.{DumpWhen}
use Rattle.palm_script.specs.declared.input.TheConstants.{MOST_BYTES}

-- A front of this text was taken. So of "= 2" it may be "= ".
abbrev pub AppendsFront : (old new : Option (List ℕ)) → List ℕ → Type 0
AppendsFront old new text = (n : ℕ) × (n ≤ length text) × Appends old new (take n text)

-- A front of this line was taken, and all of it where the count of faults didn't rise. So of "palm: usage" a sink that counted
-- a fault may have taken "palm: ".
pub record Told (old new : Option (List ℕ)) (before now : ℕ) (line : List ℕ) : Type 0 where
  pub front : AppendsFront old new line
  pub whole : now ≡ before → before < 2 ^ 64 - 1 → Appends old new line

-- A transcript as far as it is written: with what stands at its end, or without. So that of a run without calls is empty, or
-- "end 0 0", where nothing is dumped.
abbrev pub text_to : DumpWhen → Bool → List Section → List ℕ
text_to dump ends run = if ends then final_of dump run else text_of dump run

-- No more bytes were read than are taken. So where 3 are taken, a source of 5 has lost 3 at most.
abbrev pub HasReadWithin : (left rest : Option (List ℕ)) → Type 0
HasReadWithin left rest = (read : List ℕ) × Consumes left rest read × (length read ≤ MOST_BYTES)

-- One byte more was read than are taken. So where 3 are taken, a source of 5 has lost 4.
abbrev pub HasReadPast : (left rest : Option (List ℕ)) → Type 0
HasReadPast left rest = (read : List ℕ) × Consumes left rest read × (length read ≡ MOST_BYTES + 1)
