-- A desk that was just opened.
use Rattle.std.specs.Prelude.{◌≡◌, ℕ, ◌<◌, List, [], length, slice_get, Some}
use Rattle.palm_base.specs.declared.desk.Terms.{Terms}
use Rattle.palm_desk.specs.Seats.{DeskState, CallerState, DriverState}

-- The terms of a desk from their parts.
abbrev pub terms_with : ℕ → List ℕ → ℕ → ℕ → Terms
terms_with base firsts window quota = record { base = base; firsts = firsts; window = window; quota = quota }

-- The seat of the caller c, which has made no call.
abbrev pub new_caller : DeskState → ℕ → CallerState
new_caller desk c =
    record { desk = desk; caller = c; made = []; collected = []; front = desk.terms.base; looks = 0 }

-- The driver's seat, which has taken no call.
abbrev pub new_driver : DeskState → DriverState
new_driver desk =
    record { desk = desk; taken = []; replies = []; done = 0; scan = []; loads = 0 }

-- The seats of n callers, in their order, none of which has made a call.
pub record AreNewCallers (desk : DeskState) (n : ℕ) (seats : List CallerState) : Type 0 where
  pub many : length seats ≡ n
  pub each : (c : ℕ) → c < n → slice_get seats c ≡ Some (new_caller desk c)
