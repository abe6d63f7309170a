use Rattle.std.proofs.Common.{◌≡◌, ◌+◌, ◌*◌, [], length}
use Rattle.palm_desk.specs.Opened.{terms_with, AreNewCallers}
use Rattle.palm_desk.proofs.Opening.{made}
use Rattle.palm_desk.proofs.open.open_desk.Given as goal

abbrev pub invariant-loop-caller : goal.invariant-loop-caller
invariant-loop-caller l = record {
  table : l.seat.table_id ≡ l.desk-inside.table.shared.table_id;
  words : l.seat.table_id.words ≡ 4 * (length l.fn.firsts * l.window) + 2;
  view : l.seat.me.0 ≡ made (terms_with l.base l.fn.firsts l.window l.quota) l.caller;
  held : l.seat.me.1 ≡ [];
  new : AreNewCallers (record { table = l.desk-inside.table.shared.table_id; terms = terms_with l.base l.fn.firsts l.window l.quota }) l.caller l.seats.items;
}
