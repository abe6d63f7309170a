use Rattle.palm_base.proofs.KeptLists.{lists_hold, full_lists_hold}
use Rattle.palm_base.proofs.look_laws.lists_hold.Goals as goal

pub returns-clause-range : goal.returns-clause-range
returns-clause-range c = lists_hold

pub returns-clause-full : goal.returns-clause-full
returns-clause-full c = full_lists_hold
