use Rattle.palm_script.proofs.Cuts.{cuts}
use Rattle.palm_script.proofs.laws.cut_by_cuts.Goals as goal

pub returns : goal.returns
returns c = cuts
