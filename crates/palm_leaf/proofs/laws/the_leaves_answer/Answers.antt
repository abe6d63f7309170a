use Rattle.palm_leaf.proofs.LeavesAnswer.{the_leaves_answer, the_leaves_answer_rates}
use Rattle.palm_leaf.proofs.laws.the_leaves_answer.Goals as goal

pub returns-clause-ranges : goal.returns-clause-ranges
returns-clause-ranges c = the_leaves_answer

pub returns-clause-rates : goal.returns-clause-rates
returns-clause-rates c = the_leaves_answer_rates
