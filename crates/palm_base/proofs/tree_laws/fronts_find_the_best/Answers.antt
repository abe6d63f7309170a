use Rattle.palm_base.proofs.FrontSearch.{fronts_find_the_best}
use Rattle.palm_base.proofs.tree_laws.fronts_find_the_best.Goals as goal

pub returns : goal.returns
returns c = fronts_find_the_best
