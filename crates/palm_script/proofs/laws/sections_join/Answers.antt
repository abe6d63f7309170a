use Rattle.palm_script.proofs.Joins.{sections_join}
use Rattle.palm_script.proofs.laws.sections_join.Goals as goal

pub returns : goal.returns
returns c = sections_join
