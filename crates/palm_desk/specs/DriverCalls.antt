-- What the calls of the driver's seat do.
use Rattle.std.specs.Prelude.{◌≡◌, ◌+◌, ◌<◌, [], ◌∷◌, ◌++◌, length, slice_index}
use Rattle.palm_base.specs.Arrivals.{count_of}
use Rattle.palm_base.specs.Desk.{callers}
use Rattle.palm_base.specs.declared.call.Entry.{Entry}
use Rattle.palm_desk.specs.Scans.{NoneCalled}
use Rattle.palm_desk.specs.Seats.{DriverState}

-- The driver takes the next call of the desk's history: one of its caller, placed behind those of the caller that were taken.
-- It has loaded the states of the callers up to this one, and of the scan nothing stays.
pub record TakesNext (s s' : DriverState) (e : Entry) : Type 0 where
  pub caller : e.caller < callers s.desk.terms
  pub place : e.place ≡ slice_index s.desk.terms.firsts e.caller + count_of e.caller s.taken
  pub seat : s' ≡ record s { taken = s.taken ++ e ∷ []; scan = []; loads = s.loads + (e.caller + 1) }

-- The driver finds no call: in this call it has loaded one state of each caller, and none of them is Called with the next number.
pub record FindsNone (s s' : DriverState) : Type 0 where
  pub none : NoneCalled (s.desk.terms.base + length s.taken) (callers s.desk.terms) s'.scan
  pub seat : s' ≡ record s { scan = s'.scan; loads = s.loads + callers s.desk.terms }
