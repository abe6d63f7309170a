use Rattle.palm_base.proofs.DeskLaws.{always}
use Rattle.palm_base.proofs.DeskOrder.{desks_keep_order}
use Rattle.palm_base.proofs.desk.desks_keep_their_law.Goals as goal

pub returns-clause-law : goal.returns-clause-law
returns-clause-law c = always

pub returns-clause-order : goal.returns-clause-order
returns-clause-order c = desks_keep_order
