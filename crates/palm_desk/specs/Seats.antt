-- What callers of this crate see of a seat, whenever no call of it is running.
use Rattle.std.specs.Prelude.{ℕ, List}
use Rattle.atomic_table.specs.Seated.{TableId}
use Rattle.palm_base.specs.declared.call.Call.{Call}
use Rattle.palm_base.specs.declared.call.Entry.{Entry}
use Rattle.palm_base.specs.declared.call.Reply.{Reply}
use Rattle.palm_base.specs.declared.desk.Terms.{Terms}
use Rattle.palm_desk.specs.declared.views.View.{View}

-- A desk: which table it is, and the terms that it opened with.
pub record DeskState : Type 0 where
  pub table : TableId
  pub terms : Terms

-- A caller's seat: its desk, its caller, the calls that it has made and the replies that it has collected, each with
-- its number, the last count of finished calls that it has loaded, and how often it has loaded it.
-- So a seat of a desk from 10 on that has made a Get of 4 as the desk's first call has made (10, Get 4).
pub record CallerState : Type 0 where
  pub desk : DeskState
  pub caller : ℕ
  pub made : List (ℕ × Call)
  pub collected : List (ℕ × Reply)
  pub front : ℕ
  pub looks : ℕ

abbrev pub caller_state : TableId → View → CallerState
caller_state id v =
    record {
      desk = record { table = id; terms = v.terms };
      caller = v.calls.caller;
      made = v.calls.made;
      collected = v.calls.collected;
      front = v.calls.front;
      looks = v.calls.looks;
    }

-- The driver's seat: its desk, the calls that it has taken, its replies to the first of these, how many replies the
-- callers were told of, the callers and the states that its last look for a call has loaded where it found none, and how many
-- states it has loaded in all.
pub record DriverState : Type 0 where
  pub desk : DeskState
  pub taken : List Entry
  pub replies : List Reply
  pub done : ℕ
  pub scan : List (ℕ × ℕ)
  pub loads : ℕ

abbrev pub driver_state : TableId → View → DriverState
driver_state id v =
    record {
      desk = record { table = id; terms = v.terms };
      taken = v.drives.taken;
      replies = v.drives.replies;
      done = v.drives.done;
      scan = v.drives.scan;
      loads = v.drives.loads;
    }
