-- The driver's look for the next call, and the taking of one, as its view shows them.
use Rattle.std.specs.Prelude.{◌≡◌, ◌≢◌, ℕ, zero, suc, ◌+◌, ◌*◌, ◌^◌, ◌<◌, ◌≤◌, List, [], length, slice_index, All}
use Rattle.palm_base.specs.Arrivals.{count_of, entry}
use Rattle.palm_base.specs.Desk.{callers}
use Rattle.palm_base.specs.declared.call.Call.{Call}
use Rattle.palm_desk.specs.declared.views.View.{View}
use Rattle.palm_desk.specs.Views.{driving, called, took}

-- The number of the next call that is to be taken. So where two are taken at a desk from 10 on, it is 12.
abbrev pub next_number : View → ℕ
next_number v = v.terms.base + length v.drives.taken

-- The scan to which the state of the caller c is added: the first caller's begins a scan anew.
abbrev pub scan_for : ℕ → List (ℕ × ℕ) → List (ℕ × ℕ)
scan_for zero scan = []
scan_for (suc c) scan = scan

-- The view once the caller c's call was found, with the states of the callers up to it.
abbrev pub found_with : ℕ → List (ℕ × ℕ) → View → View
found_with c scan v =
    driving (record v.drives { found = c + 1; scan = scan; loads = v.drives.loads + (c + 1) }) v

-- The look has found the next call at the caller c.
abbrev pub FoundAt : View → View → ℕ → Type 0
FoundAt v w c = (c < callers v.terms) × ((scan : List (ℕ × ℕ)) × (w ≡ found_with c scan v))

-- The view once no call was found, with the state of each caller.
abbrev pub found_none : List (ℕ × ℕ) → View → View
found_none scan v =
    driving (record v.drives { scan = scan; loads = v.drives.loads + callers v.terms }) v

-- One state of each caller was loaded, and none of them is Called with this number.
abbrev pub NoneCalled : ℕ → ℕ → List (ℕ × ℕ) → Type 0
NoneCalled n callers scan = (length scan ≡ callers) × All (λ x. x.1 ≢ called n) scan

-- The look has found no call.
abbrev pub FoundNowhere : View → View → Type 0
FoundNowhere v w =
    (scan : List (ℕ × ℕ)) × (w ≡ found_none scan v) × NoneCalled (next_number v) (callers v.terms) scan

-- The next call is taken: it is this one of the caller c, placed behind those of c that are taken. Its number is small, its
-- caller stays within its quota, and no more calls wait for an answer than there are cells.
abbrev pub TakesOne : View → View → ℕ → Call → Type 0
TakesOne v w c call =
    (w ≡ driving (took (entry c (slice_index v.terms.firsts c + count_of c v.drives.taken) call) v.drives) v)
    × (next_number v + 1 < 2 ^ 62)
    × (count_of c v.drives.taken + 1 ≤ v.terms.quota)
    × (length v.drives.taken + 1 ≤ length v.drives.replies + callers v.terms * v.terms.window)
