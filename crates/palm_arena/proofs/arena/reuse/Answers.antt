use Rattle.palm_arena.proofs.Putting.{reused}
use Rattle.palm_arena.proofs.arena.reuse.Goals as goal

pub returns-clause-ok : goal.returns-clause-ok
returns-clause-ok c = reused _ _ _ _ _ c.requires.inside c.requires.vacant c.requires.untouched (rw c.deref.ensures.value at c.in_default.ensures.ok)
