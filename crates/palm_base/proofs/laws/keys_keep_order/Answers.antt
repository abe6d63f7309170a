use Rattle.palm_base.proofs.KeyOrder.{keys_keep_order, keys_are_distinct}
use Rattle.palm_base.proofs.laws.keys_keep_order.Goals as goal

pub returns-clause-order : goal.returns-clause-order
returns-clause-order c = keys_keep_order

pub returns-clause-distinct : goal.returns-clause-distinct
returns-clause-distinct c = keys_are_distinct
