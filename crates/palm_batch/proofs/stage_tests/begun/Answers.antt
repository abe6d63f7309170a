use Rattle.std.proofs.Common.{ap, subst}
use Rattle.palm_arena.specs.ArenaState.{ArenaState}
use Rattle.palm_arena.specs.Reads.{map_of}
use Rattle.palm_tree.specs.TreeValue.{TreeState, tree_in}
use Rattle.palm_batch.specs.Passing.{IsTree}
use Rattle.palm_batch.proofs.OpenTrees.{tree_stands}
use Rattle.palm_batch.proofs.stage_tests.begun.Goals as goal

pub returns-clause-tree : goal.returns-clause-tree
returns-clause-tree c =
    let own = c.tree.inside in
    subst (λ (state : TreeState). IsTree (tree_in state) (map_of c.begin.new.self.places) own.shape) c.tree.view_is
    (tree_stands own.arena c.begin.new.self own.shape own.rows c.tree.invariant (ap (λ (a : ArenaState). a.places) c.begin.ensures))
