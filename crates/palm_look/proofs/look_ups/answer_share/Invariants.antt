use Rattle.palm_base.specs.Tree.{rows_of}
use Rattle.palm_tree.specs.TreeValue.{tree_in}
use Rattle.palm_look.proofs.JudgedShares.{AreSoFar}
use Rattle.palm_look.proofs.look_ups.answer_share.Given as goal

abbrev pub invariant-loop-i : goal.invariant-loop-i
invariant-loop-i l = AreSoFar (rows_of (tree_in l.fn.tree)) l.keys l.entries l.i l.answers.items
