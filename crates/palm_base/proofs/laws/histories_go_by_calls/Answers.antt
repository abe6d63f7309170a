use Rattle.palm_base.proofs.Histories.{histories_go_by_calls}
use Rattle.palm_base.proofs.laws.histories_go_by_calls.Goals as goal

pub returns : goal.returns
returns c = histories_go_by_calls
