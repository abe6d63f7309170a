use Rattle.std.proofs.Common.{◌≡◌, ◌≢◌, ◌+◌, ◌<◌, length, All}
use Rattle.palm_desk.specs.Scans.{next_number}
use Rattle.palm_desk.specs.Views.{driving, called}
use Rattle.palm_desk.proofs.next.find_next.Given as goal

abbrev pub invariant-loop-caller : goal.invariant-loop-caller
invariant-loop-caller l = record {
  table : l.seat.table_id ≡ l.fn.seat.table_id;
  view : l.seat.me.0 ≡ driving (record l.fn.seat.me.0.drives { scan = l.seat.me.0.drives.scan; loads = l.fn.seat.me.0.drives.loads + l.caller }) l.fn.seat.me.0;
  slots : l.seat.me.1 ≡ l.fn.seat.me.1;
  scan : 0 < l.caller → (length l.seat.me.0.drives.scan ≡ l.caller) × All (λ x. x.1 ≢ called (next_number l.fn.seat.me.0)) l.seat.me.0.drives.scan;
}
