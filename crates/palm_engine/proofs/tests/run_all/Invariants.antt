use Rattle.std.proofs.Common.{length}
use Rattle.palm_engine.proofs.tests.run_all.Given as goal

abbrev pub decreases-loop-rt : goal.decreases-loop-rt
decreases-loop-rt g l = length l.rest
