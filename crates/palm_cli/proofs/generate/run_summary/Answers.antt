use Rattle.std.proofs.Common.{◌≡◌, refl, subst}
use Rattle.std.proofs.lemmas.Result.{on_err_weaker}
use Rattle.palm_base.specs.Tree.{rows_of}
use Rattle.palm_tree.specs.TreeValue.{tree_in}
use Rattle.palm_cli.specs.Generated.{summary_by, summary_said}
use Rattle.palm_cli.specs.Streams.{AppendsFront}
use Rattle.palm_cli.proofs.generate.run_summary.Goals as goal

pub returns-clause-front : goal.returns-clause-front
returns-clause-front g c =
    let tree = tree_in c.run_calls.new.engine.tree in
    let said : summary_by c.in_ok-tally.tally (rows_of tree) tree ≡ summary_said c.args.settings.now =
    rw (c.in_ok-tally.ensures.tally, c.in_ok-tally.ensures.rows, c.in_ok-tally.ensures.tree) refl in
    on_err_weaker c.write_summary.result
    (λ took. subst (AppendsFront (g.O.Sink.taken c.args.out.now) (g.O.Sink.taken c.write_summary.new.out)) said took)
    c.write_summary.ensures.front
