-- The rule of a desk: its words, its slots at home and the views of its seats show one state of the machine, which came by events
-- from the opening.
use Rattle.std.specs.Prelude.{◌≡◌, ℕ, ◌+◌, ◌*◌, ◌%◌, ◌^◌, ◌<◌, ◌≤◌, ◌⊎◌, List, [], ◌++◌, length, take, slice_index, All, Contains, None}
use mathlib.Core.Option.{none, some}
use mathlib.Core.Option as maybe
use lib.ListN.{get_elem?}
use Rattle.atomic_table.specs.Table.{State, Me}
use Rattle.palm_base.specs.Arrivals.{count_of, made_by}
use Rattle.palm_base.specs.Desk.{Machine, Reached, callers}
use Rattle.palm_base.specs.declared.call.Call.{Call}
use Rattle.palm_base.specs.declared.call.Entry.{Entry}
use Rattle.palm_base.specs.declared.call.Reply.{Reply}
use Rattle.palm_base.specs.declared.desk.Terms.{Terms}
use Rattle.palm_desk.specs.Views.{Slot, filled, fresh, called}
use Rattle.palm_desk.specs.Words.{spell, IsCall}
use Rattle.palm_desk.specs.declared.views.CallerView.{CallerView}
use Rattle.palm_desk.specs.declared.views.DriverView.{DriverView}
use Rattle.palm_desk.specs.declared.views.Role.{Role}
use Rattle.palm_desk.specs.declared.views.Role.TheVariants.{Calling, Driving, Spent}
use Rattle.palm_desk.specs.declared.views.View.{View}

-- The slots of a table, each at home with what it holds, or out with a seat.
abbrev pub Homes : Type 0
Homes = List (maybe.Option Slot)

-- A desk's table: words, slots and views.
abbrev pub Desk : Type 0
Desk = State Slot View

-- A seat: its view, and the slots that it holds.
abbrev pub Holder : Type 0
Holder = Me Slot View

-- The cell of the turn j of the caller c: window cells stand side by side for each caller, and its turns go round them.
-- So with a window of 4 the turn 6 of the caller 1 has the cell 6, as its turn 2 had.
abbrev pub cell : Terms → ℕ → ℕ → ℕ
cell k c j = c * k.window + j % k.window

-- The place of a cell's state word, and that of the first of its three call words. The words 0 and 1 are the tail, which counts the
-- arrivals from the base on, and the count of finished calls. So the cell 0 has the state word 2 and the call words 3 to 5.
abbrev pub state_at : ℕ → ℕ
state_at q = 4 * q + 2

abbrev pub words_at : ℕ → ℕ
words_at q = 4 * q + 3

-- The words from the place a on begin with xs.
abbrev pub Begins : List ℕ → ℕ → List ℕ → Type 0
Begins ws a xs = (i : ℕ) (x : ℕ) → get_elem? xs i ≡ some x → slice_index ws (a + i) ≡ x

-- The slot of a cell is at home and holds nothing, or is out with a seat.
abbrev pub Empty : Homes → ℕ → Type 0
Empty homes q = get_elem? homes q ≡ some (some None)

abbrev pub Out : Homes → ℕ → Type 0
Out homes q = get_elem? homes q ≡ some none

-- The cell q of a posted and uncollected call, which is the i-th of the history: its words spell the call, and its state is
-- Called where the call waits to be taken, Taken where it waits for its reply, and Answered from then on.
pub record Posted (base taken : ℕ) (replies : List Reply) (ws : List ℕ) (homes : Homes) (q i : ℕ) (call : Call) : Type 0 where
  pub spelled : Begins ws (words_at q) (spell call)
  pub waits : taken ≤ i → (slice_index ws (state_at q) ≡ called (base + i)) × Empty homes q
  pub held : length replies ≤ i → i < taken → (slice_index ws (state_at q) ≡ 4 * (base + i) + 2) × Out homes q
  pub answered : (r : Reply) → get_elem? replies i ≡ some r
      → (slice_index ws (state_at q) ≡ 4 * (base + i) + 3) × (get_elem? homes q ≡ some (some (filled (base + i) r)))

-- The cell q of a caller's turn j, where up of its turns are posted: from up on it is idle, and its slot is at home for a turn below
-- back, else out with the caller.
pub record CellOk (base taken : ℕ) (replies : List Reply) (own : List (ℕ × Call)) (up back : ℕ) (ws : List ℕ) (homes : Homes) (q j : ℕ) : Type 0 where
  pub idle : up ≤ j → (slice_index ws (state_at q) ≡ 0) × (j < back → Empty homes q) × (back ≤ j → Out homes q)
  pub posted : (i : ℕ) (call : Call) → j < up → get_elem? own j ≡ some (base + i, call)
      → Posted base taken replies ws homes q i call

-- A caller's view shows what the machine has of it. Its draft begins the words of its next call, and stands only where a call may
-- arrive; a call that has arrived and isn't posted is spelled by those words.
pub record CallerOk (k : Terms) (log : List Entry) (up got : ℕ) (given : List (ℕ × Reply)) (done : ℕ) (ws : List ℕ) (c : ℕ) (v : CallerView) : Type 0 where
  pub caller : v.caller ≡ c
  pub made : v.made ≡ made_by c k.base log
  pub up_is : v.up ≡ up
  pub collected : v.collected ≡ given
  pub low : k.base ≤ v.front
  pub high : v.front ≤ k.base + done
  pub kept : k.window ≤ v.back
  pub owed : v.back ≤ got + k.window
  pub short : length v.draft ≤ 3
  pub may_draft : 0 < length v.draft → (up ≡ count_of c log) × (count_of c log < got + k.window)
  pub begun : Begins ws (words_at (cell k c up)) v.draft
  pub pending : (i : ℕ) (call : Call) → get_elem? (made_by c k.base log) up ≡ some (k.base + i, call)
      → Begins ws (words_at (cell k c up)) (spell call)

abbrev pub CallerAt : Terms → Machine → List ℕ → ℕ → CallerView → Type 0
CallerAt k m ws c v = CallerOk k m.log (m.up c) (m.got c) (m.given c) m.done ws c v

-- The driver's view shows what the machine has taken, answered and finished. Where it has found a call, that is the next one, which
-- its caller has posted, and the words that it has loaded begin it.
pub record DriverOk (k : Terms) (m : Machine) (d : DriverView) : Type 0 where
  pub taken : d.taken ≡ take m.taken m.log
  pub replies : d.replies ≡ m.replies
  pub done : d.done ≡ m.done
  pub seats : d.seats ≤ callers k
  pub idle : d.found ≡ 0 → d.loaded ≡ []
  pub found : (c : ℕ) → d.found ≡ c + 1
      → (e : Entry) × (get_elem? m.log m.taken ≡ some e) × (e.caller ≡ c) × (count_of c (take m.taken m.log) < m.up c)
      × ((rest : List ℕ) × (d.loaded ++ rest ≡ spell e.call))

-- Where the views stand: who has the views of all callers, seat says at which seat each is, which for a joined one is the driver's,
-- and the driver's own view d stands at the seat at.
module _ (k : Terms) (who : ℕ → CallerView) (seat : ℕ → ℕ) (d : DriverView) (at : ℕ) where
  -- What a view of this role says.
  abbrev pub Knows : ℕ → View → Role → Type 0
  Knows id v Calling =
      (v.terms ≡ k) × (v.calls ≡ who v.calls.caller) × (seat v.calls.caller ≡ id) × (v.calls.caller < d.seats)
  Knows id v Driving = (v.terms ≡ k) × (v.drives ≡ d) × (at ≡ id)
  Knows id v Spent = Unit {0}

  -- Each view is that of one seat, and each caller whose seat was made has one, in its seat or with the driver.
  pub record Seated (views : List View) : Type 0 where
    pub each : (id : ℕ) (v : View) → get_elem? views id ≡ some v → Knows id v v.role
    pub driver : (v : View) × (get_elem? views at ≡ some v) × (v.role ≡ Driving)
    pub found : (c : ℕ) → c < d.seats
        → ((v : View) × (get_elem? views (seat c) ≡ some v) × (v.role ≡ Calling) × (v.calls.caller ≡ c))
        ⊎ ((seat c ≡ at) × Contains d.ended (who c))
    pub ended : All (λ x. (x ≡ who x.caller) × (seat x.caller ≡ at) × (x.caller < d.seats)) d.ended
    pub unmade : (c : ℕ) → d.seats ≤ c → c < callers k → who c ≡ fresh k c

-- The bounds within which a desk opens. So its numbers stay below 2 ^ 62, and a state word has room for one.
pub record Bounded (k : Terms) : Type 0 where
  pub some_caller : callers k ≤ 64
  pub base : k.base ≤ 2 ^ 61
  pub some_cell : 0 < k.window
  pub window : k.window ≤ 64
  pub quota : k.quota ≤ 2 ^ 40

-- The turn j of the caller c is one of those that go round its cells just now.
abbrev pub InWindow : Terms → Machine → ℕ → ℕ → Type 0
InWindow k m c j = (c < callers k) × (m.got c ≤ j) × (j < m.got c + k.window)

abbrev pub CellAt : Terms → Machine → ℕ → List ℕ → Homes → ℕ → ℕ → Type 0
CellAt k m back ws homes c j =
    CellOk k.base m.taken m.replies (made_by c k.base m.log) (m.up c) back ws homes (cell k c j) j

-- Each call of the history is one that a program can make.
abbrev pub AreCalls : List Entry → Type 0
AreCalls log = (p : ℕ) (e : Entry) → get_elem? log p ≡ some e → IsCall e.call

-- The rule: a state of the machine, to which words, slots and views belong.
pub record IsRuled (k : Terms) (s : Desk) : Type 0 where
  pub m : Machine
  pub who : ℕ → CallerView
  pub seat : ℕ → ℕ
  pub d : DriverView
  pub at : ℕ
  pub bounded : Bounded k
  pub wide : length s.words ≡ 4 * (callers k * k.window) + 2
  pub slots : length s.homes ≡ callers k * k.window
  pub tail : slice_index s.words 0 ≡ k.base + length m.log
  pub done : slice_index s.words 1 ≡ k.base + m.done
  pub reached : Reached k m
  pub legal : AreCalls m.log
  pub driver : DriverOk k m d
  pub each_caller : (c : ℕ) → c < callers k → CallerAt k m s.words c (who c)
  pub each_cell : (c j : ℕ) → InWindow k m c j → CellAt k m (who c).back s.words s.homes c j
  pub seated : Seated k who seat d at s.views
