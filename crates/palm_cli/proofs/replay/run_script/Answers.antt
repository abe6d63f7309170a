use Rattle.std.proofs.Common.{sym, ◌∙◌}
use Rattle.std.proofs.lemmas.Result.{on_ok_weaker, on_err_weaker}
use Rattle.palm_base.proofs.EmptyTree.{empty_is_lawful}
use Rattle.palm_tree.specs.TreeValue.{tree_in}
use Rattle.palm_script.specs.Transcript.{sections_by}
use Rattle.palm_cli.proofs.Endings.{cost_of_run, run_leaves, run_text, run_front, text_front, text_ended, end_front}
use Rattle.palm_cli.proofs.Fronts.{on_err}
use Rattle.palm_cli.proofs.replay.run_script.Goals as goal

pub run_sections-requires-clause-lawful : goal.run_sections-requires-clause-lawful
run_sections-requires-clause-lawful g c κs within = empty_is_lawful (tree_in c.args.engine.now.tree) c.requires.new

pub returns-in_err-run_sections-clause-front : goal.returns-in_err-run_sections-clause-front
returns-in_err-run_sections-clause-front g c =
    let run = sections_by c.args.settings.now.batch c.deref.result.now c.deref-2.result.now in
    let dump = c.args.settings.now.dump in
    rw (← c.deref.ensures.value, ← c.deref-2.ensures.value) (
    on_err c.from_residual.result
    (text_front dump c.args.finished run _ _ (run_front dump (tree_in c.args.engine.now.tree) run _ _ c.requires.new c.in_err-run_sections.ensures.front))
    )

pub returns-then-not-finished-clause-text : goal.returns-then-not-finished-clause-text
returns-then-not-finished-clause-text g c =
    let run = sections_by c.args.settings.now.batch c.deref.result.now c.deref-2.result.now in
    let dump = c.args.settings.now.dump in
    rw (← c.deref.ensures.value, ← c.deref-2.ensures.value, c.if-not-finished.true) (
    run_text dump (tree_in c.args.engine.now.tree) run _ _ c.requires.new c.in_ok-run_sections.ensures.text
    )

pub returns-then-not-finished-clause-tree : goal.returns-then-not-finished-clause-tree
returns-then-not-finished-clause-tree g c =
    let run = sections_by c.args.settings.now.batch c.deref.result.now c.deref-2.result.now in
    rw (← c.deref.ensures.value, ← c.deref-2.ensures.value) (
    run_leaves (tree_in c.args.engine.now.tree) (tree_in c.run_sections.new.engine.tree) run _ c.requires.new c.in_ok-run_sections.ensures.after
    )

pub returns-clause-text : goal.returns-clause-text
returns-clause-text g c =
    let run = sections_by c.args.settings.now.batch c.deref.result.now c.deref-2.result.now in
    let after = tree_in c.run_sections.new.engine.tree in
    let many = c.deref.ensures.len ∙ sym c.len-calls.ensures in
    let ran = c.in_ok-run_sections.ensures in
    rw (← c.deref.ensures.value, ← c.deref-2.ensures.value, c.if-not-finished.false) (
    on_ok_weaker c.write_ending.result
    (λ took. text_ended c.args.settings.now.dump (tree_in c.args.engine.now.tree) after run _ _ _ _ _ c.requires.new ran.after many ran.text took)
    c.write_ending.ensures.text
    )

pub returns-clause-front : goal.returns-clause-front
returns-clause-front g c =
    let run = sections_by c.args.settings.now.batch c.deref.result.now c.deref-2.result.now in
    let after = tree_in c.run_sections.new.engine.tree in
    let many = c.deref.ensures.len ∙ sym c.len-calls.ensures in
    let ran = c.in_ok-run_sections.ensures in
    rw (← c.deref.ensures.value, ← c.deref-2.ensures.value, c.if-not-finished.false) (
    on_err_weaker c.write_ending.result
    (λ took. end_front c.args.settings.now.dump (tree_in c.args.engine.now.tree) after run _ _ _ _ _ c.requires.new ran.after many ran.text took)
    c.write_ending.ensures.front
    )

pub returns-clause-tree : goal.returns-clause-tree
returns-clause-tree g c =
    let run = sections_by c.args.settings.now.batch c.deref.result.now c.deref-2.result.now in
    rw (← c.deref.ensures.value, ← c.deref-2.ensures.value) (
    on_ok_weaker c.write_ending.result
    (λ took. run_leaves (tree_in c.args.engine.now.tree) (tree_in c.run_sections.new.engine.tree) run _ c.requires.new c.in_ok-run_sections.ensures.after)
    c.write_ending.ensures.text
    )

pub returns-then-not-finished-clause-ticks : goal.returns-then-not-finished-clause-ticks
returns-then-not-finished-clause-ticks g c =
    let run = sections_by c.args.settings.now.batch c.deref.result.now c.deref-2.result.now in
    rw (← c.deref.ensures.value, ← c.deref-2.ensures.value) (cost_of_run (tree_in c.args.engine.now.tree) run _ _ c.requires.new c.in_ok-run_sections.ensures.ticks)

pub returns-clause-ticks : goal.returns-clause-ticks
returns-clause-ticks g c =
    let run = sections_by c.args.settings.now.batch c.deref.result.now c.deref-2.result.now in
    rw (← c.deref.ensures.value, ← c.deref-2.ensures.value) (
    on_ok_weaker c.write_ending.result
    (λ took. cost_of_run (tree_in c.args.engine.now.tree) run _ _ c.requires.new c.in_ok-run_sections.ensures.ticks)
    c.write_ending.ensures.text
    )
