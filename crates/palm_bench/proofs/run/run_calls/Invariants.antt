use Rattle.std.proofs.Common.{◌≡◌, ◌≤◌, ◌-◌}
use Rattle.palm_base.specs.Lawful.{IsLawful}
use Rattle.palm_base.specs.Tree.{rows_of}
use Rattle.palm_tree.specs.TreeValue.{tree_in}
use Rattle.palm_bench.specs.Runs.{HasRun}
use Rattle.palm_bench.proofs.run.run_calls.Given as goal

-- those that are not left were run
abbrev pub invariant-loop-left : goal.invariant-loop-left
invariant-loop-left g l = record {
  ran : HasRun l.fn.kind (l.plan.count - l.left) (rows_of (tree_in l.fn.engine.tree)) (rows_of (tree_in l.engine.tree)) l.fn.sum l.sum;
  few : l.left ≤ l.plan.count;
  kind : l.feed.kind ≡ l.fn.kind;
  lawful : IsLawful (tree_in l.engine.tree);
}

abbrev pub decreases-loop-left : goal.decreases-loop-left
decreases-loop-left g l = l.left
