use Rattle.palm_script.proofs.Faults.{faults_stand}
use Rattle.palm_script.proofs.laws.faults_stand.Goals as goal

pub returns : goal.returns
returns c = faults_stand
