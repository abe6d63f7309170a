-- What a desk that is closed gives back.
use Rattle.std.specs.Prelude.{◌≡◌, ℕ, ◌<◌, ◌≤◌, Bool, not, ◌==◌, List, ◌++◌, length, take, filter, All, Any}
use Rattle.std.specs.List.{enumerate_from, list_any}
use Rattle.palm_base.specs.Arrivals.{made_by, replies_for}
use Rattle.palm_base.specs.Desk.{Placed, callers}
use Rattle.palm_base.specs.declared.call.Entry.{Entry}
use Rattle.palm_base.specs.declared.call.Reply.{Reply}
use Rattle.palm_desk.specs.Seats.{CallerState, DriverState}
use Rattle.palm_desk.specs.declared.rest.Rest.{Rest}

-- The seat of each caller of the desk is among these.
abbrev pub EachIsThere : DriverState → List CallerState → Type 0
EachIsThere d seats = (c : ℕ) → c < callers d.desk.terms → Any (λ s. s.caller ≡ c) seats

-- The one history of a desk: the calls that have a reply, and behind them those that wait for one.
abbrev pub history : DriverState → Rest → List Entry
history d rest = take (length d.replies) d.taken ++ rest.waiting

-- A seat has collected a reply of this number.
abbrev pub has_collected : ℕ → CallerState → Bool
has_collected n s = list_any (λ answered. answered.0 == n) s.collected

-- No seat has.
abbrev pub is_unread : List CallerState → ℕ → Bool
is_unread seats n = not (list_any (has_collected n) seats)

-- The replies with their numbers that no seat has collected. So of r, s, t from 10 on, where one seat has collected (10, r) and another
-- (12, t), (11, s) is unread.
abbrev pub unread_of : DriverState → List CallerState → List (ℕ × Reply)
unread_of d seats = filter (λ answered. is_unread seats answered.0) (enumerate_from d.desk.terms.base d.replies)

-- A desk is closed, with the rest of its one history: the driver's seat has taken the first calls of it, each caller's seat has made
-- its own, one after another from its first place on, and has collected the replies to the first of these. What it hasn't collected
-- of the replies is unread, and what has no reply waits. So each call is collected, unread or waiting, and just one of these.
pub record IsClosed (d : DriverState) (seats : List CallerState) (rest : Rest) : Type 0 where
  pub answered : length d.replies ≤ length d.taken
  pub taken : d.taken ≡ take (length d.taken) (history d rest)
  pub placed : Placed d.desk.terms (history d rest)
  pub made : All (λ s. s.made ≡ made_by s.caller d.desk.terms.base (history d rest)) seats
  pub collected : All (λ s.
      s.collected ≡ take (length s.collected) (replies_for s.caller d.desk.terms.base (history d rest) d.replies)) seats
  pub unread : rest.unread ≡ unread_of d seats
