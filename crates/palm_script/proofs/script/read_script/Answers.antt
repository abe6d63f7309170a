use Rattle.std.proofs.Common.{refl, arith}
use Rattle.std.proofs.lemmas.List.{get_or-replicate}
use Rattle.palm_script.proofs.script.read_script.Goals as goal

pub loop-first-init : goal.loop-first-init
loop-first-init c = record {
  entries = rw c.new-entries.ensures.items refl;
  ends = rw c.new-ends.ensures.items refl;
  own = rw (c.new-ends.ensures.items, c.new-entries.ensures.items) refl;
  fault = refl;
  counts = λ k lt. rw c.new-entries.ensures.items (get_or-replicate 64 k 0 0 lt);
  few = rw c.new-entries.ensures.items (omega arith);
  turns = omega arith;
}
