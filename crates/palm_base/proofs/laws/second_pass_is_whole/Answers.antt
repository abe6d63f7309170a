use Rattle.palm_base.proofs.Batches.{second_pass_is_whole}
use Rattle.palm_base.proofs.laws.second_pass_is_whole.Goals as goal

pub returns : goal.returns
returns c = second_pass_is_whole
