use Rattle.std.proofs.Common.{◌≡◌, ◌++◌, drop}
use Rattle.palm_batch.specs.OpenCalls.{open_entries}
use Rattle.palm_batch.proofs.open_calls.open_entries.Given as goal

-- the open entries so far
abbrev pub invariant-loop-i : goal.invariant-loop-i
invariant-loop-i l = record {
  far : open_entries l.known l.batch ≡ l.left.items ++ open_entries (drop l.i l.known) (drop l.i l.batch);
}
