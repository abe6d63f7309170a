use Rattle.palm_base.proofs.Tables.{table_take}
use Rattle.palm_leaf.proofs.leaf_work.keep.Goals as goal

pub set_pairs-requires-clause-table : goal.set_pairs-requires-clause-table
set_pairs-requires-clause-table c = rw c.deref.ensures.value (table_take _ c.args.plan.now.rows.items c.requires.table)
