use Rattle.palm_base.proofs.Batches.{batches_keep_rows, batches_keep_law}
use Rattle.palm_base.proofs.laws.batches_keep_the_table.Goals as goal

pub returns-clause-rows : goal.returns-clause-rows
returns-clause-rows c = batches_keep_rows

pub returns-clause-lawful : goal.returns-clause-lawful
returns-clause-lawful c = batches_keep_law
