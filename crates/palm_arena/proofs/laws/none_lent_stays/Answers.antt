use Rattle.palm_arena.proofs.Standing.{none_lent_after_put, none_lent_after_return}
use Rattle.palm_arena.proofs.laws.none_lent_stays.Goals as goal

pub returns : goal.returns
returns c = record { put = none_lent_after_put; returned = none_lent_after_return }
