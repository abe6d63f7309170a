-- Generated calls: the states, the draws, the call that three draws make, and the history that follows from a seed.
use Rattle.std.specs.Prelude.{ℕ, ◌+◌, ◌*◌, ◌/◌, ◌%◌, ◌^◌, ◌==◌, nat_lt, if◌then◌else◌, List, [], ◌∷◌, ◌++◌}
use Rattle.std.proofs.Common.{zero, suc}
use Rattle.palm_base.specs.declared.call.Call.{Call}
use Rattle.palm_base.specs.declared.call.Call.TheVariants.{Set, Del, Get, Rate, List as Range}
use Rattle.palm_base.specs.declared.call.Entry.{Entry}

-- ---- draws

-- The state after a state. So that after 0 is 0x14057B7EF767814F.
abbrev pub next_state : ℕ → ℕ
next_state x = (x * 6_364_136_223_846_793_005 + 1_442_695_040_888_963_407) % 2 ^ 64

-- The draw that a new state gives: its upper 32 bits. So that of 0x14057B7EF767814F is 0x14057B7E.
abbrev pub drawn : ℕ → ℕ
drawn state = state / 2 ^ 32

-- ---- what is drawn

-- The last n decimal digits of a number, with leading zeros. So the last 4 of 12 are 0, 0, 1, 2.
abbrev pub last_digits : ℕ → ℕ → List ℕ
last_digits zero v = []
last_digits (suc n) v = last_digits n (v / 10) ++ (v % 10) ∷ []

-- How many digits the prefix has, by the draw b: 2 to 7. So it has 3 by 13.
abbrev pub size_by : ℕ → ℕ
size_by b = 2 + b % 6

-- The prefix by the draws b and c. So that by 13 and 2007 is 0, 0, 7.
abbrev pub prefix_by : ℕ → ℕ → List ℕ
prefix_by b c = last_digits (size_by b) (c % 10 ^ size_by b)

-- A prefix, and four times one digit after it. So 4, 4 and 5 make 4, 4, 5, 5, 5, 5.
abbrev pub longer : List ℕ → ℕ → List ℕ
longer p d = p ++ (d ∷ d ∷ d ∷ d ∷ [])

-- The call of a kind from 0 to 7, with a prefix and a rate. So that of 7 with 4, 4 lists 4, 4 to 4, 4, 9, 9, 9, 9.
abbrev pub call_by : ℕ → List ℕ → ℕ → Call
call_by kind p b =
    if nat_lt kind 4 then Set p b
    else (if kind == 4 then Del p
    else (if kind == 5 then Get p
    else (if kind == 6 then Rate (longer p 5) else Range p (longer p 9) 8)))

-- A generated call, its caller, and the state after it. So of call 9 the caller is 1.
pub record Generated : Type 0 where
  pub call : Call
  pub caller : ℕ
  pub state : ℕ

-- Call i, drawn from this state by three draws: the first says its kind, the second its rate and how many digits its prefix
-- has, and the third the prefix. So call 0 from the state 0 is caller 0's Rate of 8745555.
abbrev pub generated : ℕ → ℕ → Generated
generated state i =
    let one = next_state state in
    let two = next_state one in
    let three = next_state two in
    record {
      call = call_by (drawn one % 8) (prefix_by (drawn two) (drawn three)) (drawn two);
      caller = i % 4;
      state = three;
    }

-- ---- histories

-- Call i, drawn from this state, as the next entry of its caller: four callers call by turns, so that call 9 is the
-- caller 1's call 2.
abbrev pub entry_by : ℕ → ℕ → Entry
entry_by state i = record { caller = i % 4; place = i / 4; call = (generated state i).call }

-- So many calls, of which the first is call i, drawn from this state. So 2 calls from call 9 on are the caller 1's call 2, and
-- the caller 2's call 2, which is drawn from the state after it.
abbrev pub history_from : ℕ → ℕ → ℕ → List Entry
history_from zero state i = []
history_from (suc n) state i = entry_by state i ∷ history_from n (generated state i).state (i + 1)

-- The state after so many calls, whichever they are. So that after 1 call from 0 is the third state after 0.
abbrev pub state_after : ℕ → ℕ → ℕ
state_after zero state = state
state_after (suc n) state = state_after n (next_state (next_state (next_state state)))

-- The calls that a seed makes, from call 0 on. So the first of the seed 0 is caller 0's Rate of 8745555.
abbrev pub generated_history : ℕ → ℕ → List Entry
generated_history seed calls = history_from calls seed 0
