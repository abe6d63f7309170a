use Rattle.palm_base.proofs.KeptRows.{gets_hold}
use Rattle.palm_base.proofs.look_laws.gets_hold.Goals as goal

pub returns : goal.returns
returns c = gets_hold
