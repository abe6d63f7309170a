use Rattle.palm_gen.proofs.Histories.{join}
use Rattle.palm_gen.proofs.laws.histories_join.Goals as goal

pub returns : goal.returns
returns c = join
