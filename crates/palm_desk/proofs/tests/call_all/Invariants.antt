use Rattle.std.proofs.Common.{◌≡◌, ◌≤◌}
use Rattle.palm_desk.specs.declared.tests.TheConstants.{CALLS}
use Rattle.palm_desk.proofs.tests.call_all.Given as goal

-- The seat stays the desk's, and no more calls are made and counted than are wanted.
abbrev pub invariant-loop : goal.invariant-loop
invariant-loop l = record {
  desk : l.seat.desk ≡ l.desk;
  made : l.made ≤ CALLS;
  calls : l.calls ≤ CALLS;
}
