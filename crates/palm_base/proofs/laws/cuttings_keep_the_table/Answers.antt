use Rattle.palm_base.proofs.Histories.{cuttings_keep_rows, cuttings_keep_law}
use Rattle.palm_base.proofs.laws.cuttings_keep_the_table.Goals as goal

pub returns-clause-rows : goal.returns-clause-rows
returns-clause-rows c = cuttings_keep_rows

pub returns-clause-lawful : goal.returns-clause-lawful
returns-clause-lawful c = cuttings_keep_law
