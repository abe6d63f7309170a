use Rattle.std.proofs.Common.{arith, refl, ◌∙◌}
use Rattle.std.proofs.lemmas.Result.{on_ok_weaker, on_err_weaker}
use Rattle.palm_tree.specs.TreeValue.{tree_in}
use Rattle.palm_script.specs.Transcript.{come_to}
use Rattle.palm_cli.proofs.Fronts.{on_err, but_nothing}
use Rattle.palm_cli.proofs.Sections.{section_at, last_section, calls_at, section_written, section_begun, section_run, section_cost}
use Rattle.palm_cli.proofs.run.run_sections.Goals as goal

pub returns-in_err-run_section-clause-front : goal.returns-in_err-run_section-clause-front
returns-in_err-run_section-clause-front g c =
    let at = come_to c.loop-end.n (tree_in c.loop-end.engine.tree) in
    let opened = section_at c.args.settings.now.batch _ c.args.ends.now c.loop-end.end-index c.loop-end-test.true c.split_at.ensures.front c.split_at.ensures.back in
    on_err c.from_residual.result (section_begun c.args.settings.now.dump at _ _ _ opened c.loop-end.invariant.written c.in_err-run_section.ensures.front)

pub loop-end-preserved : goal.loop-end-preserved
loop-end-preserved g c =
    let ends = c.args.ends.now in
    let i = c.loop-end.end-index in
    let at = come_to c.loop-end.n (tree_in c.loop-end.engine.tree) in
    let opened = section_at c.args.settings.now.batch _ ends i c.loop-end-test.true c.split_at.ensures.front c.split_at.ensures.back in
    let came = c.in_ok-run_section.ensures.after in
    record {
      written = section_written c.args.settings.now.dump at _ _ _ opened came c.loop-end.invariant.written c.in_ok-run_section.ensures.text;
      after = section_run at opened came c.loop-end.invariant.after;
      lawful = c.run_section.ensures.lawful;
      ticks = omega (arith, section_cost at opened came, c.in_ok-run_section.ensures.ticks, c.loop-end.invariant.ticks);
      place = omega (arith, c.loop-end.invariant.place, c.split_at.ensures.front_len, c.split_at.ensures.back_len);
      within = omega (arith, calls_at ends i c.loop-end-test.true, c.loop-end.invariant.within, c.split_at.ensures.back_len);
      faults = c.in_ok-run_section.ensures.kept ∙ c.loop-end.invariant.faults;
    }

pub returns-clause-text : goal.returns-clause-text
returns-clause-text g c =
    let at = come_to c.loop-end.n (tree_in c.loop-end.engine.tree) in
    let last = last_section c.args.settings.now.batch c.loop-end.rest.now c.args.ends.now c.loop-end.end-index c.loop-end-test.false in
    let old = c.loop-end.invariant.written in
    on_ok_weaker c.run_section-2.result (λ took. but_nothing _ _ (section_written c.args.settings.now.dump at _ _ _ last refl old took)) c.run_section-2.ensures.text

pub returns-clause-front : goal.returns-clause-front
returns-clause-front g c =
    let at = come_to c.loop-end.n (tree_in c.loop-end.engine.tree) in
    let last = last_section c.args.settings.now.batch c.loop-end.rest.now c.args.ends.now c.loop-end.end-index c.loop-end-test.false in
    on_err_weaker c.run_section-2.result (λ took. section_begun c.args.settings.now.dump at _ _ _ last c.loop-end.invariant.written took) c.run_section-2.ensures.front

pub returns-clause-ticks : goal.returns-clause-ticks
returns-clause-ticks g c =
    let at = come_to c.loop-end.n (tree_in c.loop-end.engine.tree) in
    let last = last_section c.args.settings.now.batch c.loop-end.rest.now c.args.ends.now c.loop-end.end-index c.loop-end-test.false in
    on_ok_weaker c.run_section-2.result (λ ticks. omega (arith, section_cost at last refl, ticks, c.loop-end.invariant.ticks)) c.run_section-2.ensures.ticks
