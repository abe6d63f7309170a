-- What the calls of a caller's seat do.
use Rattle.std.specs.Prelude.{◌≡◌, ℕ, ◌+◌, ◌-◌, ◌<◌, ◌≤◌, List, [], ◌∷◌, ◌++◌, length, codes, slice_get, Some}
use Rattle.palm_base.specs.declared.call.Call.{Call}
use Rattle.palm_base.specs.declared.call.Reply.{Reply}
use Rattle.palm_desk.specs.Seats.{CallerState}
use Rattle.palm_desk.specs.declared.caller.Poll.{Poll}
use Rattle.palm_desk.specs.declared.caller.Poll.TheVariants.{Nothing, Pending, Ready}
use Rattle.palm_desk.specs.declared.caller.SubmitFault.{SubmitFault}
use Rattle.palm_desk.specs.declared.caller.SubmitFault.TheVariants.{Full, Spent}

-- The text of a fault.
abbrev pub fault_text : SubmitFault → List ℕ
fault_text Full = codes "the caller's window is full"
fault_text Spent = codes "the caller's quota is spent"

-- How many calls a seat has made and not collected. So with three calls made and one collected it is 2.
abbrev pub uncollected : CallerState → ℕ
uncollected s = length s.made - length s.collected

-- The seat may make a call: it has fewer uncollected calls than the window, and has made fewer than the quota.
abbrev pub MayCall : CallerState → Type 0
MayCall s = (uncollected s < s.desk.terms.window) × (length s.made < s.desk.terms.quota)

-- Why it may make none. A full window comes first, so a seat is spent only where there is room.
abbrev pub Refuses : CallerState → SubmitFault → Type 0
Refuses s Full = uncollected s ≡ s.desk.terms.window
Refuses s Spent = (uncollected s < s.desk.terms.window) × (length s.made ≡ s.desk.terms.quota)

-- The seat after a call with this number. So a Get of 4 under the number 10 adds (10, Get 4) to what is made, and no more.
abbrev pub after_call : ℕ → Call → CallerState → CallerState
after_call n call s = record s { made = s.made ++ (n, call) ∷ [] }

-- The seat after a load of the count of finished calls.
abbrev pub after_look : ℕ → CallerState → CallerState
after_look front s = record s { front = front; looks = s.looks + 1 }

-- The seat after it has collected a reply.
abbrev pub after_reply : ℕ → Reply → CallerState → CallerState
after_reply n r s = record s { collected = s.collected ++ (n, r) ∷ [] }

-- The oldest uncollected call has this number. So where (10, x), (12, y) are made and the reply to x is collected, it is 12.
abbrev pub IsOldest : CallerState → ℕ → Type 0
IsOldest s n = (call : Call) × (slice_get s.made (length s.collected) ≡ Some (n, call))

-- What an answer of a poll says. With a front of 12 the call 12 is pending, and with 13 its reply is there.
abbrev pub Polled : CallerState → CallerState → Poll → Type 0
Polled s s' Nothing = (length s.made ≡ length s.collected) × (s' ≡ s)
Polled s s' Pending = (n : ℕ) × IsOldest s n × (s'.front ≤ n) × (s' ≡ after_look s'.front s)
Polled s s' (Ready n r) = IsOldest s n × (n < s'.front) × (s' ≡ after_reply n r (after_look s'.front s))
