use Rattle.palm_base.proofs.Lows.{batches_keep_lows, cuttings_keep_lows}
use Rattle.palm_base.proofs.tree_laws.batches_keep_lows.Goals as goal

pub returns-clause-batch : goal.returns-clause-batch
returns-clause-batch c = batches_keep_lows

pub returns-clause-history : goal.returns-clause-history
returns-clause-history c = cuttings_keep_lows
