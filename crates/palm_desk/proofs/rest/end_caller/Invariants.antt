use Rattle.std.proofs.Common.{◌≡◌, ℕ, ◌-◌, max}
use Rattle.palm_desk.specs.Views.{calling}
use Rattle.palm_desk.specs.Holding.{held}
use Rattle.palm_desk.proofs.rest.end_caller.Given as goal

abbrev pub invariant-loop : goal.invariant-loop
invariant-loop l = record {
  table : l.seat.table_id ≡ l.caller-inside.seat.table_id;
  back : ℕ;
  view : l.seat.me.0 ≡ calling (record l.caller-inside.seat.me.0.calls { back = back }) l.caller-inside.seat.me.0;
  turn : max back l.made ≡ l.counter;
  holds : l.seat.me.1 ≡ held l.caller-inside.seat.me.0.terms l.caller-inside.caller l.counter (l.end - l.counter);
}
