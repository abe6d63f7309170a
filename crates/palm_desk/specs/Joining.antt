-- The callers' seats are taken in by the driver's, when a desk is closed.
use Rattle.std.specs.Prelude.{◌≡◌, ℕ, ◌<◌, List, [], length, get_or, slice_index, All, Contains}
use Rattle.palm_desk.specs.Seats.{CallerState}
use Rattle.palm_desk.specs.Views.{driving}
use Rattle.palm_desk.specs.declared.views.CallerView.{CallerView}
use Rattle.palm_desk.specs.declared.views.Role.TheVariants.{Calling}
use Rattle.palm_desk.specs.declared.views.View.{View}

-- The view of a caller's seat at rest, where its turns below this one have their slots at home.
abbrev pub view_of : CallerState → ℕ → CallerView
view_of s back =
    record {
      caller = s.caller;
      made = s.made;
      up = length s.made;
      collected = s.collected;
      draft = [];
      front = s.front;
      looks = s.looks;
      back = back;
    }

-- The seat has given its slots back, and knows what it knew.
abbrev pub IsSettled : CallerState → View → Type 0
IsSettled s v = (v.role ≡ Calling) × ((back : ℕ) × (v.calls ≡ view_of s back))

-- The driver's view has taken in those of these seats, and is else as before.
abbrev pub AllJoined : View → View → List CallerState → Type 0
AllJoined v w seats =
    (ended : List CallerView) × (w ≡ driving (record v.drives { ended = ended }) v)
    × All (λ s. (back : ℕ) × Contains ended (view_of s back)) seats

-- At each caller that has a seat among these stands how much such a seat has collected and made.
abbrev pub CountsOf : List CallerState → List ℕ → List ℕ → Type 0
CountsOf seats got made =
    (i : ℕ) (d : CallerState) → i < length seats
    → (s : CallerState) × Contains seats s × (s.caller ≡ (get_or seats i d).caller)
    × (slice_index got s.caller ≡ length s.collected) × (slice_index made s.caller ≡ length s.made)
