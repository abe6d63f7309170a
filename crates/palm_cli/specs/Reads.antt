-- How a script and a deck were read.
use Rattle.std.specs.Prelude.{◌≡◌, ℕ, ◌≤◌, List, length, IfSome, Ok, Option}
use Rattle.std.specs.Io.KnownBytes.{Consumes, IsAtEnd}
use Rattle.palm_base.specs.declared.call.Entry.{Entry}
use Rattle.palm_deck.specs.Deck.{deck_of}
use Rattle.palm_script.specs.Causes.{Rose}
use Rattle.palm_script.specs.Input.{IsRead, is_whole}
use Rattle.palm_script.specs.Script.{Says, script_of}
use Rattle.palm_script.specs.declared.input.InputEnd.{InputEnd}
use Rattle.palm_script.specs.declared.input.TheConstants.{MOST_BYTES}
use Rattle.palm_cli.specs.Decks.{IsBadDeck}
use Rattle.palm_cli.specs.Stops.{ended_by}
use Rattle.palm_cli.specs.Streams.{HasReadPast, HasReadWithin}
use Rattle.palm_cli.specs.declared.replay.ReadScript.{ReadScript}
use Rattle.palm_cli.specs.declared.status.Status.{Status}
use Rattle.palm_cli.specs.declared.status.Status.TheVariants.{ReadFault, NoMemory, TooLong, BadRow}

-- From a source that had `left` and now has `rest`, where told, with its counts of faults before and now, a good deck was
-- read to its end, and it says these edits. So of "op,prefix,rate" and "set,44,7" it is one edit, Set 44 7 of caller 0.
pub record IsEdits (left rest : Option (List ℕ)) (before now : ℕ) (edits : List Entry) : Type 0 where
  pub bytes : List ℕ
  pub size : length bytes ≤ MOST_BYTES
  pub whole : Consumes left rest bytes
  pub end : IsAtEnd rest
  pub kept : now ≡ before
  pub says : deck_of bytes ≡ Ok edits

-- From a source that had `left` and now has `rest`, where told, with its counts of faults before and now, this script was read,
-- and the program ends with this status where all of it is run. So of "0 get 44" it is the script of Get 44 with Done, where the
-- source was read to its end.
pub record IsScript (left rest : Option (List ℕ)) (before now : ℕ) (read : ReadScript) : Type 0 where
  pub bytes : List ℕ
  pub end : InputEnd
  pub size : length bytes ≤ MOST_BYTES
  pub input : IsRead left rest before now bytes end
  pub says : Says (script_of bytes (is_whole end)) read.script
  pub ends : read.end ≡ ended_by read.script.fault end

-- Some bytes were read. So a source of "abc" has "bc" where "a" was read.
abbrev pub IsReadFrom : (left rest : Option (List ℕ)) → Type 0
IsReadFrom left rest = (read : List ℕ) × Consumes left rest read

-- No good deck was read, and this is why. One that has a faulty record was read to its end, without a fault of the source.
-- So at ReadFault the source counts a fault more, and no byte too many was read; and at Done it isn't so.
abbrev pub IsNoDeck : (left rest : Option (List ℕ)) (before now : ℕ) → Status → Type 0
IsNoDeck left rest before now NoMemory = IsReadFrom left rest
IsNoDeck left rest before now ReadFault = Rose before now × HasReadWithin left rest
IsNoDeck left rest before now TooLong = HasReadPast left rest × (now ≡ before)
IsNoDeck left rest before now (BadRow row why) = IfSome left (λ b. IsBadDeck b row why) × IsAtEnd rest × IsReadFrom left rest × (now ≡ before)
IsNoDeck left rest before now _ = ⊥
