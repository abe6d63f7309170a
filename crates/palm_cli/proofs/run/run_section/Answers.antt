use Rattle.std.proofs.Common.{◌≡◌, ℕ, [], ◌++◌, List, length, ap, refl, ◌∙◌}
use Rattle.std.proofs.lemmas.List.{append-nil}
use Rattle.palm_base.specs.Pass.{tree_after}
use Rattle.palm_tree.specs.TreeValue.{tree_in}
use Rattle.palm_script.specs.Transcript.{come_to, dump_text, batches_text, cut_by}
use Rattle.palm_cli.specs.Streams.{AppendsFront}
use Rattle.palm_cli.proofs.Fronts.{on_err, front_now, front_more}
use Rattle.palm_cli.proofs.run.run_section.Goals as goal

pub returns-in_err-print_dump-clause-front : goal.returns-in_err-print_dump-clause-front
returns-in_err-print_dump-clause-front g c =
    let lengths = cut_by c.args.settings.now.batch (length c.args.calls.now) in
    let first = tree_in c.args.engine.now.tree in
    let dumped = dump_text c.args.dumps (tree_after first c.args.calls.now lengths) in
    on_err c.from_residual-in_err-print_dump.result
    (front_now _ _ (batches_text c.args.settings.now.dump (come_to c.args.n first) c.args.calls.now lengths) dumped _ c.in_ok-run_batches.ensures.text refl)

pub returns-in_err-write_all-clause-front : goal.returns-in_err-write_all-clause-front
returns-in_err-write_all-clause-front g c =
    let lengths = cut_by c.args.settings.now.batch (length c.args.calls.now) in
    let first = tree_in c.args.engine.now.tree in
    let batches = batches_text c.args.settings.now.dump (come_to c.args.n first) c.args.calls.now lengths in
    let dumped = dump_text c.args.dumps (tree_after first c.args.calls.now lengths) in
    let shown = dump_text c.args.dumps (tree_in c.run_batches.new.engine.tree) in
    let same : shown ≡ dumped = ap (dump_text c.args.dumps) c.in_ok-run_batches.ensures.tree in
    let printed : c.print_dump.new.text.items ≡ dumped = c.in_ok-print_dump.ensures ∙ ap (λ l. l ++ shown) c.clear.ensures.items ∙ same in
    let more : AppendsFront (g.O.Sink.taken c.run_batches.new.out) (g.O.Sink.taken c.write_all.new.out) dumped =
    rw (← printed, ← c.deref.ensures.value) c.in_err-write_all.ensures.err in
    on_err c.from_residual-in_err-write_all.result
    (front_more _ _ _ batches dumped [] _ c.in_ok-run_batches.ensures.text more (ap (λ (l : List ℕ). batches ++ l) (append-nil dumped)))
