use Rattle.std.proofs.Common.{◌≡◌, ◌+◌, ◌≤◌, [], ◌++◌, length}
use Rattle.palm_script.specs.Script.{outcome_from, lines_of, script_of, entries_from, ends_from, AreCounts}
use Rattle.palm_script.specs.declared.script.SectionEnd.{SectionEnd}
use Rattle.std.specs.Prelude.{sum_by}
use Rattle.palm_script.proofs.script.read_script.Given as goal

abbrev pub invariant-loop-first : goal.invariant-loop-first
invariant-loop-first l = record {
  entries : l.entries.items ++ entries_from l.entries.items (outcome_from l.line (lines_of l.rest l.whole)).items ≡ entries_from [] (script_of l.text l.whole).items;
  ends : l.ends.items ++ ends_from l.calls (outcome_from l.line (lines_of l.rest l.whole)).items ≡ ends_from 0 (script_of l.text l.whole).items;
  own : sum_by (λ (end : SectionEnd). end.calls) l.ends.items + l.calls ≡ length l.entries.items;
  fault : (outcome_from l.line (lines_of l.rest l.whole)).fault ≡ (script_of l.text l.whole).fault;
  counts : AreCounts l.counts l.entries.items;
  few : length l.entries.items + 1 ≤ l.line;
  turns : l.line + length l.rest ≤ length l.text + 1;
}

abbrev pub decreases-loop-first : goal.decreases-loop-first
decreases-loop-first l = length l.rest
