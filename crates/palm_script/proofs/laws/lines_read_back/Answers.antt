use Rattle.palm_script.proofs.Spelled.{reads_back}
use Rattle.palm_script.proofs.laws.lines_read_back.Goals as goal

pub returns : goal.returns
returns c = reads_back
