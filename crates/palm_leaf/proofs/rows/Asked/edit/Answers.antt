use Rattle.palm_base.specs.declared.call.Call.TheVariants.{Set}
use Rattle.palm_base.proofs.Tables.{calls_keep_tables, filter_keeps}
use Rattle.palm_leaf.proofs.rows.Asked.edit.Goals as goal

pub returns-in-Set-clause-table : goal.returns-in-Set-clause-table
returns-in-Set-clause-table c = rw (c.put_row.ensures.rows, c.of_key.ensures) (calls_keep_tables c.args.rows.now.items (Set _ _) c.requires.table)

pub returns-in-Del-clause-table : goal.returns-in-Del-clause-table
returns-in-Del-clause-table c = rw c.remove_row.ensures.rows (filter_keeps _ c.args.rows.now.items c.requires.table)
