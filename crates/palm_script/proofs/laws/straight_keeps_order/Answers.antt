use Rattle.palm_script.proofs.Orders.{keeps_order}
use Rattle.palm_script.proofs.laws.straight_keeps_order.Goals as goal

pub returns : goal.returns
returns c = keeps_order
