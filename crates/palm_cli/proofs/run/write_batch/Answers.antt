use Rattle.std.proofs.Common.{◌≡◌, ◌++◌, ap, ◌∙◌}
use Rattle.palm_tree.specs.TreeValue.{tree_in}
use Rattle.palm_script.specs.Transcript.{come_to, batch_text}
use Rattle.palm_cli.specs.Streams.{AppendsFront}
use Rattle.palm_cli.proofs.Fronts.{on_err, front_none}
use Rattle.palm_cli.proofs.run.write_batch.Goals as goal

pub returns-in_err-replay_batch-clause-front : goal.returns-in_err-replay_batch-clause-front
returns-in_err-replay_batch-clause-front g c = on_err c.from_residual.result (front_none _ _)

pub returns-in_err-write_all-clause-front : goal.returns-in_err-write_all-clause-front
returns-in_err-write_all-clause-front g c =
    let text = batch_text c.args.settings.now.dump (come_to c.args.n (tree_in c.args.engine.now.tree)) c.args.batch.now in
    let printed : c.replay_batch.new.text.items ≡ text = c.in_ok-replay_batch.ensures.text ∙ ap (λ l. l ++ text) c.clear.ensures.items in
    let took : AppendsFront (g.O.Sink.taken c.args.out.now) (g.O.Sink.taken c.write_all.new.out) text = rw (← printed, ← c.deref.ensures.value) c.in_err-write_all.ensures.err in
    on_err c.from_residual-in_err-write_all.result took

pub returns-clause-text : goal.returns-clause-text
returns-clause-text g c =
    let text = batch_text c.args.settings.now.dump (come_to c.args.n (tree_in c.args.engine.now.tree)) c.args.batch.now in
    let printed : c.replay_batch.new.text.items ≡ text = c.in_ok-replay_batch.ensures.text ∙ ap (λ l. l ++ text) c.clear.ensures.items in
    rw (← printed, ← c.deref.ensures.value) c.in_ok-write_all.ensures.ok
