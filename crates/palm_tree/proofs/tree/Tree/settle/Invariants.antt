use Rattle.std.proofs.Common.{length}
use Rattle.palm_base.specs.Tree.{rows_of}
use Rattle.palm_tree.specs.TreeValue.{tree_in}
use Rattle.palm_tree.proofs.LanesUnderWay.{SettledTo}
use Rattle.palm_tree.proofs.tree.Tree.settle.Given as goal

-- the lanes before this one were settled
abbrev pub invariant-loop-i : goal.invariant-loop-i
invariant-loop-i l = SettledTo (rows_of (tree_in l.self)) l.entries l.lanes (length l.initial.answers.items) l.i l.left.items l.answers.items
