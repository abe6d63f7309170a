use Rattle.std.proofs.Common.{◌≡◌, ◌≤◌, length}
use Rattle.palm_arena.specs.Journal.{Covers, places_at_begin}
use Rattle.palm_arena.proofs.journal.Journal.put_back.Given as goal

abbrev pub invariant-loop-id : goal.invariant-loop-id
invariant-loop-id l = Covers (length l.places.items) l.self × (l.count ≤ length l.places.items) × (places_at_begin l.count l.self l.places.items ≡ places_at_begin l.count l.initial.self l.initial.places.items)

abbrev pub decreases-loop-id : goal.decreases-loop-id
decreases-loop-id l = length l.self.saved.items
