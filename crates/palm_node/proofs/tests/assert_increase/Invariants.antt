use Rattle.std.proofs.Common.{ℕ, ◌+◌, ◌<◌}
use Rattle.std.specs.Prelude.{slice_index}
use Rattle.palm_node.proofs.tests.assert_increase.Given as goal

-- the separators so far rise
abbrev pub invariant-loop-i : goal.invariant-loop-i
invariant-loop-i g l = (k : ℕ) → k + 1 < l.i → slice_index l.seps k < slice_index l.seps (k + 1)
