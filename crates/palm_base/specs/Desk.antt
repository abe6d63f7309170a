-- The desk as one machine: its events, where each may come, and what holds of it after any events.
use Rattle.std.specs.Prelude.{◌≡◌, ℕ, ◌+◌, ◌<◌, ◌≤◌, ◌==◌, cond, List, [], ◌∷◌, ◌++◌, length, map, take, slice_index}
use Rattle.std.specs.List.{range_with_len}
use mathlib.Core.Option.{some}
use lib.ListN.{get_elem?}
use Rattle.palm_base.specs.Arrivals.{entry, count_of, replies_for}
use Rattle.palm_base.specs.History.{KeepsOrder}
use Rattle.palm_base.specs.declared.call.Call.{Call}
use Rattle.palm_base.specs.declared.call.Entry.{Entry}
use Rattle.palm_base.specs.declared.call.Reply.{Reply}
use Rattle.palm_base.specs.declared.desk.Terms.{Terms}
use Rattle.palm_base.specs.declared.desk.Event.{Event}
use Rattle.palm_base.specs.declared.desk.Event.TheVariants.{Arrive, Post, Take, Answer, Finish, Collect}

-- The state of a desk: the calls that have arrived, how many of them each caller has posted, how many are taken, the replies,
-- how many of these the callers were told of, and how many each caller has got, with what it was given.
pub record Machine : Type 0 where
  pub log : List Entry
  pub up : ℕ → ℕ
  pub taken : ℕ
  pub replies : List Reply
  pub done : ℕ
  pub got : ℕ → ℕ
  pub given : ℕ → List (ℕ × Reply)

-- A desk that was just opened: nothing has arrived.
abbrev pub opened : Machine
opened = record { log = []; up = λ c. 0; taken = 0; replies = []; done = 0; got = λ c. 0; given = λ c. [] }

-- The function f with the value x at c.
abbrev pub put : {A : Type 0} → (ℕ → A) → ℕ → A → ℕ → A
put f c x j = cond (j == c) x (f j)

module _ (k : Terms) where
  -- How many callers the desk has.
  abbrev pub callers : ℕ
  callers = length k.firsts

  -- The next call of the caller c: its place counts on from the caller's first.
  abbrev pub next_entry : Machine → ℕ → Call → Entry
  next_entry m c call = entry c (slice_index k.firsts c + count_of c m.log) call

  -- The call arrives. So where two calls have arrived at a desk that opened at 10, it has the number 12.
  abbrev pub arrive : ℕ → Call → Machine → Machine
  arrive c call m = record m { log = m.log ++ next_entry m c call ∷ [] }

  -- The caller posts the call that has arrived.
  abbrev pub post : ℕ → Machine → Machine
  post c m = record m { up = put m.up c (m.up c + 1) }

  -- The driver takes the next call.
  abbrev pub take_next : Machine → Machine
  take_next m = record m { taken = m.taken + 1 }

  -- The driver answers the first call that has no reply.
  abbrev pub reply : Reply → Machine → Machine
  reply r m = record m { replies = m.replies ++ r ∷ [] }

  -- The callers are told of all replies.
  abbrev pub finish : Machine → Machine
  finish m = record m { done = length m.replies }

  -- The caller is given the reply to its oldest call that it hasn't got.
  abbrev pub collect : ℕ → Machine → Machine
  collect c m =
      record m {
        got = put m.got c (m.got c + 1);
        given = put m.given c (take (m.got c + 1) (replies_for c k.base m.log m.replies));
      }

  -- Where an event may come. So a caller makes a call only once its last one is posted, within its window and its quota; and
  -- the driver takes a call only where its caller has posted it.
  abbrev pub May : Machine → Event → Type 0
  May m (Arrive c call) =
      (c < callers) × (m.up c ≡ count_of c m.log) × (count_of c m.log < m.got c + k.window)
      × (count_of c m.log < k.quota)
  May m (Post c) = (c < callers) × (m.up c < count_of c m.log)
  May m Take =
      (e : Entry) × (get_elem? m.log m.taken ≡ some e)
      × (count_of e.caller (take m.taken m.log) < m.up e.caller)
  May m (Answer r) = length m.replies < m.taken
  May m Finish = Unit {0}
  May m (Collect c) = (c < callers) × (m.got c < count_of c (take m.done m.log))

  -- The state after an event.
  abbrev pub after : Machine → Event → Machine
  after m (Arrive c call) = arrive c call m
  after m (Post c) = post c m
  after m Take = take_next m
  after m (Answer r) = reply r m
  after m Finish = finish m
  after m (Collect c) = collect c m

  -- Each of the events may come when its turn is.
  abbrev pub MayAll : Machine → List Event → Type 0
  MayAll m [] = Unit {0}
  MayAll m (e ∷ es) = May m e × MayAll (after m e) es

  -- The state after all of them.
  abbrev pub after_all : Machine → List Event → Machine
  after_all m [] = m
  after_all m (e ∷ es) = after_all (after m e) es

-- What holds of one caller: at most one of its calls waits to be posted, it stays within its quota and its window, none of
-- its calls is taken before it is posted, it has got only what is finished, and that is the replies to its first calls.
pub record Served (k : Terms) (m : Machine) (c : ℕ) : Type 0 where
  pub low : m.up c ≤ count_of c m.log
  pub high : count_of c m.log ≤ m.up c + 1
  pub quota : count_of c m.log ≤ k.quota
  pub room : count_of c m.log ≤ m.got c + k.window
  pub posted : count_of c (take m.taken m.log) ≤ m.up c
  pub finished : m.got c ≤ count_of c (take m.done m.log)
  pub given : m.given c ≡ take (m.got c) (replies_for c k.base m.log m.replies)

-- The calls of each caller are placed one after another, from its first place on.
abbrev pub Placed : Terms → List Entry → Type 0
Placed k log =
    (p : ℕ) (e : Entry) → get_elem? log p ≡ some e
    → (e.caller < length k.firsts)
    × (e.place ≡ slice_index k.firsts e.caller + count_of e.caller (take p log))

-- What holds of a desk: calls are taken in the order of their arrival, answered in that order and finished in it, and each
-- caller is served.
pub record Lawful (k : Terms) (m : Machine) : Type 0 where
  pub done_le : m.done ≤ length m.replies
  pub replies_le : length m.replies ≤ m.taken
  pub taken_le : m.taken ≤ length m.log
  pub placed : Placed k m.log
  pub each : (c : ℕ) → c < length k.firsts → Served k m c

-- The state comes from the opening by events, each of which could come.
pub data Reached (k : Terms) : Machine → Type 0 where
  start : Reached k opened
  next : (m : Machine) (e : Event) → May k m e → Reached k m → Reached k (after k m e)

-- The calls that the events let the caller c make, in order. So those of 3 in Arrive 3 x, Post 3, Arrive 2 y are x.
abbrev pub calls_in : ℕ → List Event → List Call
calls_in c [] = []
calls_in c (Arrive d call ∷ events) = cond (d == c) (call ∷ calls_in c events) (calls_in c events)
calls_in c (Post d ∷ events) = calls_in c events
calls_in c (Take ∷ events) = calls_in c events
calls_in c (Answer r ∷ events) = calls_in c events
calls_in c (Finish ∷ events) = calls_in c events
calls_in c (Collect d ∷ events) = calls_in c events

-- The calls of each of n callers. So those of two in Arrive 1 x, Post 1, Arrive 0 y are (y), (x).
abbrev pub all_calls_in : ℕ → List Event → List (List Call)
all_calls_in n events = map (λ c. calls_in c events) (range_with_len 0 n)

-- A desk is lawful after any events that may come.
abbrev pub DeskKeepsItsLaw : Type 0
DeskKeepsItsLaw =
    (k : Terms) (events : List Event) → MayAll k opened events → Lawful k (after_all k opened events)

-- The history keeps each caller's calls in the order in which it made them.
abbrev pub DeskKeepsOrder : Type 0
DeskKeepsOrder =
    (k : Terms) (events : List Event) → MayAll k opened events
    → KeepsOrder k.firsts (all_calls_in (callers k) events) (after_all k opened events).log
