use Rattle.palm_base.specs.Tree.{rows_of}
use Rattle.palm_tree.specs.LookLanes.{AreUnderWay, work_left}
use Rattle.palm_tree.specs.TreeValue.{tree_in}
use Rattle.palm_tree.proofs.tree.Tree.answer_look_ups.Given as goal

-- the entries that are taken are answered or in lanes
abbrev pub invariant-loop-answers : goal.invariant-loop-answers
invariant-loop-answers l = AreUnderWay (rows_of (tree_in l.self)) l.entries l.lanes.items l.answers.items

abbrev pub decreases-loop-answers : goal.decreases-loop-answers
decreases-loop-answers l = work_left l.entries l.lanes.items l.answers.items
