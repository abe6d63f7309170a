-- What each step of a desk tells its seat: st is the step, m the seat before it, n the word that it found, and m' the seat after.
use Rattle.std.specs.Prelude.{◌≡◌, ℕ, ◌+◌, ◌-◌, ◌*◌, ◌/◌, ◌^◌, ◌<◌, ◌≤◌, List, [], ◌∷◌, length, slice_index, None}
use Rattle.std.specs.Prelude.{Some}
use mathlib.Core.Option.{Option, none, some}
use lib.ListN.{get_elem?}
use Rattle.atomic_table.specs.Table.{Step, rest}
use Rattle.palm_base.specs.Arrivals.{count_of}
use Rattle.palm_base.specs.declared.call.Call.{Call}
use Rattle.palm_base.specs.declared.call.Entry.{Entry}
use Rattle.palm_base.specs.declared.call.Reply.{Reply}
use Rattle.palm_desk.specs.Rule.{Holder}
use Rattle.palm_desk.specs.Scans.{next_number}
use Rattle.palm_desk.specs.Views.{Slot, filled, calling, driving, drafted, arrived, posted_one, looked, given_one, scanned, read, took, replied, finished, settled}
use Rattle.palm_desk.specs.Words.{spell, IsCall}

-- A call word is stored.
abbrev pub Drafts : Step Slot → Holder → ℕ → Holder → Type 0
Drafts st m n m' = (m'.0 ≡ calling (drafted n m.0.calls) m.0) × (m'.1 ≡ m.1)

-- The call that the draft spells arrives under the number n, which is no smaller than the last count that the seat has loaded.
abbrev pub Arrives : Step Slot → Holder → ℕ → Holder → Type 0
Arrives st m n m' =
    (n < 2 ^ 62) × (m.0.calls.front ≤ n)
    × ((call : Call) → IsCall call → m.0.calls.draft ≡ spell call → m'.0 ≡ calling (arrived n call m.0.calls) m.0)
    × (m'.1 ≡ m.1)

-- The call may be taken. In a cell that was used before, the slot that the seat holds goes home.
abbrev pub Posts : Step Slot → Holder → ℕ → Holder → Type 0
Posts st m n m' =
    (m'.0 ≡ calling (posted_one m.0.calls) m.0) × (m.0.calls.up < m.0.calls.back → m'.1 ≡ m.1)
    × (m.0.calls.back ≤ m.0.calls.up → m'.1 ≡ rest m.1)

-- The state of the first caller's next cell is loaded, and begins a scan.
abbrev pub Starts : Step Slot → Holder → ℕ → Holder → Type 0
Starts st m n m' = (m'.0 ≡ driving (scanned [] (next_number m.0) 0 n m.0.drives) m.0) × (m'.1 ≡ m.1)

-- The state of one more caller's next cell is loaded, and added to the scan.
abbrev pub Scans : Step Slot → Holder → ℕ → Holder → Type 0
Scans st m n m' =
    (m'.0 ≡ driving (scanned m.0.drives.scan (next_number m.0) (length m.0.drives.scan) n m.0.drives) m.0)
    × (m'.1 ≡ m.1)

-- A word of the call that was found is loaded.
abbrev pub Reads : Step Slot → Holder → ℕ → Holder → Type 0
Reads st m n m' = (m'.0 ≡ driving (read n m.0.drives) m.0) × (m'.1 ≡ m.1)

-- The call that was found and read is taken, with its slot. Its number stays small, its caller within its quota, and no more calls
-- wait for an answer than there are cells.
abbrev pub Takes : Step Slot → Holder → ℕ → Holder → Type 0
Takes st m n m' =
    (e : Entry) × (m.0.drives.found ≡ e.caller + 1) × (m.0.drives.loaded ≡ spell e.call)
    × (e.place ≡ slice_index m.0.terms.firsts e.caller + count_of e.caller m.0.drives.taken)
    × (next_number m.0 + 1 < 2 ^ 62) × (count_of e.caller m.0.drives.taken + 1 ≤ m.0.terms.quota)
    × (length m.0.drives.taken + 1 ≤ length m.0.drives.replies + length m.0.terms.firsts * m.0.terms.window)
    × (m'.0 ≡ driving (took e m.0.drives) m.0) × (m'.1 ≡ ((st.word - 2) / 4, None) ∷ m.1) × IsCall e.call

-- The reply in a slot, and that in the first slot that a seat holds.
abbrev pub reply_in : Slot → Option Reply
reply_in None = none
reply_in (Some a) = some a.reply

abbrev pub front_reply : List (ℕ × Slot) → Option Reply
front_reply [] = none
front_reply (x ∷ xs) = reply_in x.1

-- The reply in the seat's first slot goes home.
abbrev pub Answers : Step Slot → Holder → ℕ → Holder → Type 0
Answers st m n m' =
    ((r : Reply) → front_reply m.1 ≡ some r → m'.0 ≡ driving (replied r m.0.drives) m.0) × (m'.1 ≡ rest m.1)

-- The callers are told of all replies.
abbrev pub Finishes : Step Slot → Holder → ℕ → Holder → Type 0
Finishes st m n m' = (m'.0 ≡ driving (finished m.0.drives) m.0) × (m'.1 ≡ m.1)

-- The count n of finished calls is loaded.
abbrev pub Looks : Step Slot → Holder → ℕ → Holder → Type 0
Looks st m n m' = (m'.0 ≡ calling (looked n m.0.calls) m.0) × (m'.1 ≡ m.1)

-- The reply to the oldest call is collected, with its slot.
abbrev pub Collects : Step Slot → Holder → ℕ → Holder → Type 0
Collects st m n m' =
    (i : ℕ) × (call : Call) × (r : Reply) × (get_elem? m.0.calls.made (length m.0.calls.collected) ≡ some (i, call))
    × (m'.0 ≡ calling (given_one i r m.0.calls) m.0) × (m'.1 ≡ ((st.word - 2) / 4, filled i r) ∷ m.1)

-- One empty slot goes home.
abbrev pub Settles : Step Slot → Holder → ℕ → Holder → Type 0
Settles st m n m' = (m'.0 ≡ calling (settled m.0.calls) m.0) × (m'.1 ≡ rest m.1)
