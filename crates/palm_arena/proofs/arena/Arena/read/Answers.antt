use Rattle.std.proofs.Common.{subst}
use Rattle.palm_arena.specs.ArenaState.{ArenaState, IsStill}
use Rattle.palm_arena.proofs.Seeing.{still}
use Rattle.palm_arena.proofs.arena.Arena.read.Goals as goal

pub returns-clause-still : goal.returns-clause-still
returns-clause-still c = subst (λ (w : ArenaState). IsStill w) c.self.view_is (still c.self.inside c.self.invariant)
