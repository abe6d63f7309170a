use Rattle.std.proofs.Common.{◌≡◌, ◌+◌, ◌≤◌, length, drop}
use Rattle.std.specs.Prelude.{sum_by}
use Rattle.palm_base.specs.Lawful.{IsLawful}
use Rattle.palm_script.specs.Transcript.{come_to, sections_text, sections_by, after_sections}
use Rattle.palm_script.specs.declared.script.SectionEnd.{SectionEnd}
use Rattle.palm_tree.specs.TreeValue.{tree_in}
use Rattle.palm_cli.specs.Costs.{sections_cost}
use Rattle.palm_cli.proofs.Fronts.{AppendsBut}
use Rattle.palm_cli.proofs.run.run_sections.Given as goal

-- what was written so far, with the text of the sections that are left, is the whole text, and these come to where all come to
abbrev pub invariant-loop-end : goal.invariant-loop-end
invariant-loop-end g l =
    let taken = g.O.Sink.taken in
    let faults = g.O.Sink.faults in
    let dump = l.settings.dump in
    let now = tree_in l.engine.tree in
    let first = tree_in l.fn.engine.tree in
    let left = sections_by l.settings.batch l.rest (drop l.end-index l.ends) in
    let all = sections_by l.settings.batch l.entries l.ends in
    record {
      written : AppendsBut (taken l.fn.out) (taken l.out) (sections_text dump (come_to l.n now) left) (sections_text dump (come_to 0 first) all);
      after : after_sections (come_to l.n now) left ≡ after_sections (come_to 0 first) all;
      lawful : IsLawful now;
      ticks : l.steps + sections_cost now left ≤ l.fn.steps + sections_cost first all;
      place : l.n + length l.rest ≡ length l.entries;
      within : sum_by (λ (end : SectionEnd). end.calls) (drop l.end-index l.ends) ≤ length l.rest;
      faults : faults l.out ≡ faults l.fn.out;
    }
