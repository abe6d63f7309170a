use Rattle.palm_script.proofs.StraightStorms.{straight_is_stormy}
use Rattle.palm_script.proofs.laws.straight_is_stormy.Goals as goal

pub returns : goal.returns
returns c = straight_is_stormy
