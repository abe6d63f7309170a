use Rattle.palm_base.proofs.LevelCounts.{high_trees_hold_many, lawful_trees_are_low}
use Rattle.palm_base.proofs.tree_laws.lawful_trees_are_low.Goals as goal

pub returns-clause-rows : goal.returns-clause-rows
returns-clause-rows c = high_trees_hold_many

pub returns-clause-levels : goal.returns-clause-levels
returns-clause-levels c = lawful_trees_are_low
