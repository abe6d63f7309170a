use Rattle.palm_gen.proofs.Histories.{long}
use Rattle.palm_gen.proofs.laws.histories_are_long.Goals as goal

pub returns : goal.returns
returns c = long
