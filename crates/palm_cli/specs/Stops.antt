-- The status of a run that stopped, of bytes that are no deck, and of a run that came to its end.
use Rattle.std.specs.Prelude.{Option, None, Some}
use Rattle.palm_deck.specs.declared.deck.DeckFault.{DeckFault}
use Rattle.palm_deck.specs.declared.deck.DeckFault.TheVariants as faults
use Rattle.palm_script.specs.declared.line.LineFault.{LineFault}
use Rattle.palm_script.specs.declared.input.InputEnd.{InputEnd}
use Rattle.palm_script.specs.declared.input.InputEnd.TheVariants as ends
use Rattle.palm_cli.specs.declared.stop.Stop.{Stop}
use Rattle.palm_cli.specs.declared.stop.Stop.TheVariants as stops
use Rattle.palm_cli.specs.declared.status.Status.{Status}
use Rattle.palm_cli.specs.declared.status.Status.TheVariants as statuses

-- How the program ends where its run stopped for this. So where memory was refused it ends with NoMemory.
abbrev pub status_of : Stop → Status
status_of stops.Memory = statuses.NoMemory
status_of stops.Write = statuses.WriteFault

-- How the program ends where bytes aren't read as a deck. So where the record 2 is bad it ends with BadRow 2.
abbrev pub status_by : DeckFault → Status
status_by faults.NoMemory = statuses.NoMemory
status_by (faults.Bad row why) = statuses.BadRow row why

-- How the program ends where all was run that was read of a script: by its first faulty line, and where there is none by how
-- the reading ended. So with no faulty line, and read to its end, it is Done.
abbrev pub ended_by : Option LineFault → InputEnd → Status
ended_by (Some fault) end = statuses.BadLine fault
ended_by None ends.Whole = statuses.Done
ended_by None ends.Failed = statuses.ReadFault
ended_by None ends.Long = statuses.TooLong
