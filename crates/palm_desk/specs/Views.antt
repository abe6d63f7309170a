-- What the seats of a desk know, and how one step changes it.
use Rattle.std.specs.Prelude.{ℕ, ◌+◌, ◌*◌, ◌==◌, cond, List, [], ◌∷◌, ◌++◌, length, max, Option, Some}
use Rattle.palm_base.specs.declared.call.Call.{Call}
use Rattle.palm_base.specs.declared.call.Entry.{Entry}
use Rattle.palm_base.specs.declared.call.Reply.{Reply}
use Rattle.palm_base.specs.declared.desk.Terms.{Terms}
use Rattle.palm_desk.specs.declared.views.Answered.{Answered}
use Rattle.palm_desk.specs.declared.views.CallerView.{CallerView}
use Rattle.palm_desk.specs.declared.views.DriverView.{DriverView}
use Rattle.palm_desk.specs.declared.views.Role.TheVariants.{Calling, Driving, Spent}
use Rattle.palm_desk.specs.declared.views.View.{View}

-- What a slot may hold: a reply with its number, or nothing.
abbrev pub Slot : Type 0
Slot = Option Answered

-- The slot with the reply to the call of this number.
abbrev pub filled : ℕ → Reply → Slot
filled n r = Some (record { number = n; reply = r; feed = tt })

-- The view of a caller that has made no call.
abbrev pub fresh : Terms → ℕ → CallerView
fresh k c =
    record { caller = c; made = []; up = 0; collected = []; draft = []; front = k.base; looks = 0; back = k.window }

-- The view of a driver that has made no seat.
abbrev pub starts : DriverView
starts = record { seats = 0; taken = []; replies = []; done = 0; found = 0; loaded = []; scan = []; loads = 0; ended = [] }

-- The view of a desk's first seat, which makes the callers' seats and then is the driver's.
abbrev pub maker : Terms → View
maker k = record { role = Driving; terms = k; calls = fresh k 0; drives = starts }

-- A caller's view with this in place of what it knew.
abbrev pub calling : CallerView → View → View
calling c v = record v { calls = c }

-- A driver's view with this in place of what it knew.
abbrev pub driving : DriverView → View → View
driving d v = record v { drives = d }

-- The view of the next caller's seat, and that of the maker once it is made.
abbrev pub newcomer : View → View
newcomer v = record { role = Calling; terms = v.terms; calls = fresh v.terms v.drives.seats; drives = starts }

abbrev pub seated : View → View
seated v = record v { drives = record v.drives { seats = v.drives.seats + 1 } }

-- The view of a seat that was joined to another.
abbrev no_terms : Terms
no_terms = record { base = 0; firsts = []; window = 0; quota = 0 }

abbrev pub spent : View
spent = record { role = Spent; terms = no_terms; calls = fresh no_terms 0; drives = starts }

-- The driver's view once it has taken in the view w of a caller.
abbrev pub closed_by : View → View → View
closed_by v w = record v { drives = record v.drives { ended = v.drives.ended ++ w.calls ∷ [] } }

-- The first slot that a caller holds goes home, so that it can be joined.
abbrev pub settled : CallerView → CallerView
settled v = record v { back = max v.back v.up + 1 }

-- A word of the next call is stored.
abbrev pub drafted : ℕ → CallerView → CallerView
drafted x v = record v { draft = v.draft ++ x ∷ [] }

-- The call has arrived under the number n.
abbrev pub arrived : ℕ → Call → CallerView → CallerView
arrived n call v = record v { made = v.made ++ (n, call) ∷ []; draft = [] }

-- The call is posted.
abbrev pub posted_one : CallerView → CallerView
posted_one v = record v { up = v.up + 1 }

-- The count n of finished calls is loaded.
abbrev pub looked : ℕ → CallerView → CallerView
looked n v = record v { front = n; looks = v.looks + 1 }

-- A reply is collected.
abbrev pub given_one : ℕ → Reply → CallerView → CallerView
given_one n r v = record v { collected = v.collected ++ (n, r) ∷ [] }

-- The state word of a cell whose call n waits to be taken. So that of the call 12 is 49.
abbrev pub called : ℕ → ℕ
called n = 4 * n + 1

-- What the driver finds by a state word x of the caller c, where the next number is n: one more than c where it is Called with n,
-- else 0.
abbrev pub found_if : ℕ → ℕ → ℕ → ℕ
found_if x n c = cond (x == called n) (c + 1) 0

-- A state word x of the caller c is loaded, and added to this scan.
abbrev pub scanned : List (ℕ × ℕ) → ℕ → ℕ → ℕ → DriverView → DriverView
scanned scan n c x d =
    record d { found = found_if x n c; loaded = []; scan = scan ++ (c, x) ∷ []; loads = d.loads + 1 }

-- A word of the call that was found is loaded.
abbrev pub read : ℕ → DriverView → DriverView
read x d = record d { loaded = d.loaded ++ x ∷ [] }

-- That call is taken.
abbrev pub took : Entry → DriverView → DriverView
took e d = record d { taken = d.taken ++ e ∷ []; found = 0; loaded = []; scan = [] }

-- The first call without a reply is answered.
abbrev pub replied : Reply → DriverView → DriverView
replied r d = record d { replies = d.replies ++ r ∷ [] }

-- A batch is finished.
abbrev pub finished : DriverView → DriverView
finished d = record d { done = length d.replies }
