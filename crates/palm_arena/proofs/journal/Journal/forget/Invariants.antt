use Rattle.std.proofs.Common.{length}
use Rattle.palm_arena.specs.Journal.{Covers}
use Rattle.palm_arena.proofs.journal.Journal.forget.Given as goal

abbrev pub invariant-loop-id : goal.invariant-loop-id
invariant-loop-id l = Covers (length l.places) l.self

abbrev pub decreases-loop-id : goal.decreases-loop-id
decreases-loop-id l = length l.self.saved.items
