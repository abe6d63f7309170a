use Rattle.std.proofs.Common.{List, true}
use Rattle.csv.specs.Reading.{strip_bom}
use Rattle.palm_deck.specs.Deck.{Record, without_mark}
use Rattle.palm_deck.proofs.Records.{HasRead, unread}
use Rattle.palm_deck.proofs.Said.{Held}
use Rattle.palm_deck.proofs.read.read_deck.Given as goal

-- the header was read, and the entries are the edits of the records behind it
abbrev pub invariant-loop-entries : goal.invariant-loop-entries
invariant-loop-entries l = (rows : List Record) × HasRead (strip_bom (without_mark l.fn.bytes)) rows l.reader × Held true rows l.entries.items

abbrev pub decreases-loop-entries : goal.decreases-loop-entries
decreases-loop-entries l = unread l.reader
