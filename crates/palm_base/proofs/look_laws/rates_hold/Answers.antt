use Rattle.palm_base.proofs.KeptRates.{rates_hold}
use Rattle.palm_base.proofs.look_laws.rates_hold.Goals as goal

pub returns : goal.returns
returns c = rates_hold
