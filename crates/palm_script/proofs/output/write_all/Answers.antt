use Rattle.std.proofs.Common.{rules, ◌∙◌}
use Rattle.palm_script.proofs.Streams.{took_more}
use Rattle.palm_script.proofs.output.write_all.Goals as goal

pub loop-done-preserved : goal.loop-done-preserved
loop-done-preserved g c = record {
  within = search rules;
  bytes = took_more _ _ _ c.args.part.now c.loop-done.done c.in_ok-done.field-0 c.loop-done.invariant.bytes c.in_ok-done.ensures.bytes;
  faults = c.in_ok-done.ensures.cause.kept ∙ c.loop-done.invariant.faults;
}
