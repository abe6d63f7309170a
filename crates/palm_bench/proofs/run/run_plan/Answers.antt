use Rattle.std.proofs.Common.{ap}
use Rattle.std.proofs.lemmas.Result.{IfOk-weaker}
use Rattle.palm_base.specs.Tree.{rows_of}
use Rattle.palm_base.proofs.EmptyTree.{empty_is_lawful}
use Rattle.palm_tree.specs.TreeValue.{tree_in}
use Rattle.palm_bench.specs.Runs.{HasRun, Leaves}
use Rattle.palm_bench.proofs.Running.{load_leaves, calls_leave}
use Rattle.palm_bench.proofs.run.run_plan.Goals as goal

pub run_calls-requires-clause-lawful : goal.run_calls-requires-clause-lawful
run_calls-requires-clause-lawful g c κs within = empty_is_lawful (tree_in c.args.engine.now.tree) c.requires.new

pub returns-in-Load-clause-leaves : goal.returns-in-Load-clause-leaves
returns-in-Load-clause-leaves g c =
    load_leaves c.args.plan.kind c.args.plan.count (rows_of (tree_in c.args.engine.now.tree)) (rows_of (tree_in c.run_calls.new.engine.tree)) c.in_ok-sum.sum
    c.in-Load.is (ap rows_of c.requires.new) c.in_ok-sum.ensures.ran

pub returns-clause-leaves : goal.returns-clause-leaves
returns-clause-leaves g c =
    let kind = c.args.plan.kind in
    let count = c.args.plan.count in
    let first = rows_of (tree_in c.args.engine.now.tree) in
    let loaded = rows_of (tree_in c.run_calls.new.engine.tree) in
    let rows = rows_of (tree_in c.run_calls-2.new.engine.tree) in
    let so_far = c.in_ok-sum.sum in
    IfOk-weaker c.run_calls-2.result (λ sum. HasRun kind count loaded rows so_far sum) (λ sum. Leaves kind count rows sum)
    (λ sum ran. calls_leave kind count first loaded rows so_far sum c.in_default.not-Load (ap rows_of c.requires.new) c.in_ok-sum.ensures.ran ran) c.run_calls-2.ensures.ran
