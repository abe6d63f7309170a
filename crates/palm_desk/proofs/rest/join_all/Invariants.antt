use Rattle.std.proofs.Common.{◌≡◌, List, ◌++◌, length, All, vec_len}
use Rattle.palm_desk.specs.Joining.{AllJoined, CountsOf}
use Rattle.palm_desk.specs.Seats.{CallerState}
use Rattle.palm_desk.proofs.rest.join_all.Given as goal

abbrev pub invariant-loop-caller : goal.invariant-loop-caller
invariant-loop-caller l = record {
  table : l.seat.table_id ≡ l.fn.seat.table_id;
  tables : All (λ s. s.desk ≡ l.desk) l.callers.items;
  done : List CallerState;
  split : l.fn.callers.items ≡ l.callers.items ++ done;
  joined : AllJoined l.fn.seat.me.0 l.seat.me.0 done;
  counts : CountsOf done l.got l.made;
  got_long : length l.got ≡ length l.fn.got;
  made_long : length l.made ≡ length l.fn.made;
}

abbrev pub decreases-loop-caller : goal.decreases-loop-caller
decreases-loop-caller l = vec_len l.callers
