use Rattle.palm_route.proofs.CountedParts.{parts_are_counted}
use Rattle.palm_route.proofs.laws.parts_are_counted.Goals as goal

pub returns : goal.returns
returns c = parts_are_counted
