use Rattle.std.proofs.Common.{◌≡◌, replicate}
use Rattle.palm_desk.proofs.open.zeros.Given as goal

abbrev pub invariant-loop : goal.invariant-loop
invariant-loop g l = l.zeros.items ≡ replicate l.counter l.zero
