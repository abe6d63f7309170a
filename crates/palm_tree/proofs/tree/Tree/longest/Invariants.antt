use Rattle.std.proofs.Common.{◌≡◌, length}
use Rattle.palm_base.specs.Fronts.{first_front}
use Rattle.palm_base.specs.Tree.{rows_of}
use Rattle.palm_tree.specs.Jumps.{IsFrontOf}
use Rattle.palm_tree.specs.TreeValue.{tree_in}
use Rattle.palm_tree.proofs.tree.Tree.longest.Given as goal

-- no front longer than this has a row
abbrev pub invariant-loop-row : goal.invariant-loop-row
invariant-loop-row l = record {
  front : IsFrontOf l.len l.number;
  same : first_front l.len l.number (rows_of (tree_in l.self)) ≡ first_front (length l.number) l.number (rows_of (tree_in l.self));
}

abbrev pub decreases-loop-row : goal.decreases-loop-row
decreases-loop-row l = l.len
