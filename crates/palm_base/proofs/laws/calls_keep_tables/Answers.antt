use Rattle.palm_base.proofs.Tables.{calls_keep_tables}
use Rattle.palm_base.proofs.laws.calls_keep_tables.Goals as goal

pub returns : goal.returns
returns c = calls_keep_tables
