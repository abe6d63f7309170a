use Rattle.std.proofs.Common.{◌≡◌, ◌≤◌, ◌*◌, length}
use Rattle.palm_desk.specs.declared.tests.TheConstants.{CALLS}
use Rattle.palm_desk.proofs.tests.answer_all.Given as goal

-- Each call that was taken is answered.
abbrev pub invariant-loop : goal.invariant-loop
invariant-loop l = record {
  desk : l.driver.desk ≡ l.desk;
  none_waits : length l.driver.replies ≡ length l.driver.taken;
  calls : l.calls ≤ 4 * CALLS;
}
