use Rattle.palm_route.proofs.Descents.{leaves_rise, leaves_are_there}
use Rattle.palm_route.proofs.laws.leaves_rise.Goals as goal

pub returns-clause-rise : goal.returns-clause-rise
returns-clause-rise c = leaves_rise

pub returns-clause-some : goal.returns-clause-some
returns-clause-some c = leaves_are_there
