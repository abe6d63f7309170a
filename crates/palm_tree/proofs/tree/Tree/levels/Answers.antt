use Rattle.std.proofs.Common.{ap, ◌∙◌}
use Rattle.palm_base.specs.Tree.{levels_of}
use Rattle.palm_tree.specs.TreeValue.{TreeState, tree_in}
use Rattle.palm_tree.proofs.Values.{value_reads}
use Rattle.palm_tree.proofs.tree.Tree.levels.Goals as goal

pub returns : goal.returns
returns c = (value_reads c.self.inside.arena c.self.inside.shape c.self.inside.rows c.self.invariant).0 ∙ ap (λ (s : TreeState). levels_of (tree_in s)) c.self.view_is
