use Rattle.std.proofs.Common.{refl}
use Rattle.palm_arena.specs.Reads.{map_of}
use Rattle.palm_tree.specs.TreeValue.{tree_of}
use Rattle.palm_batch.proofs.OpenTrees.{tree_stands}
use Rattle.palm_batch.proofs.PassedTrees.{tree_there}
use Rattle.palm_batch.proofs.stage_tests.touched.Goals as goal

pub route-requires-clause-tree : goal.route-requires-clause-tree
route-requires-clause-tree g c κs within =
    let own = c.tree.inside in
    tree_there (tree_of own.arena.places own.shape) (map_of own.arena.places) own.shape (tree_stands own.arena own.arena own.shape own.rows c.tree.invariant refl)
