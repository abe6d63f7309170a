use Rattle.palm_tree.specs.TreeValue.{tree_in}
use Rattle.palm_batch.proofs.stage_tests.passed.Goals as goal

pub run_pass-requires-clause-tree : goal.run_pass-requires-clause-tree
run_pass-requires-clause-tree g c κs within = (tree_in c.args.tree, c.begun-arena.ensures.tree)
