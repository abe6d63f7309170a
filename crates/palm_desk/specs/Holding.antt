-- What a seat has in hand whenever no call of it is running: its view, the slots that it holds, and what it counts beside the table.
use Rattle.std.specs.Prelude.{◌≡◌, ℕ, zero, suc, ◌+◌, ◌-◌, ◌*◌, ◌%◌, ◌^◌, ◌<◌, ◌≤◌, max, List, [], ◌∷◌, length, slice_index, take, None}
use mathlib.Core.Option.{Option, none, some}
use lib.ListN.{get_elem?}
use Rattle.palm_base.specs.Arrivals.{count_of}
use Rattle.palm_base.specs.Desk.{callers}
use Rattle.palm_base.specs.declared.call.Call.{Call}
use Rattle.palm_base.specs.declared.call.Entry.{Entry}
use Rattle.palm_base.specs.declared.desk.Terms.{Terms}
use Rattle.palm_desk.specs.Rule.{Holder, cell}
use Rattle.palm_desk.specs.Views.{Slot}
use Rattle.palm_desk.specs.declared.views.Role.TheVariants.{Calling, Driving}

-- The empty slots of n cells of the caller c, from that of its turn j on.
abbrev pub held : Terms → ℕ → ℕ → ℕ → List (ℕ × Slot)
held k c j zero = []
held k c j (suc n) = (cell k c j, None) ∷ held k c (j + 1) n

-- A caller's seat at rest: each call that it has made is posted, no draft stands, its counts are those of its view, it holds the
-- slots of its idle cells but those never used, and it knows the numbers of its uncollected calls.
pub record CallerIsReady (words : ℕ) (me : Holder) (caller window quota made got : ℕ) (numbers : List ℕ) : Type 0 where
  pub role : me.0.role ≡ Calling
  pub caller_is : me.0.calls.caller ≡ caller
  pub window_is : me.0.terms.window ≡ window
  pub quota_is : me.0.terms.quota ≡ quota
  pub known : caller < callers me.0.terms
  pub few : callers me.0.terms ≤ 64
  pub some_cell : 0 < window
  pub small : window ≤ 64
  pub words_is : words ≡ 4 * (callers me.0.terms * window) + 2
  pub made_is : length me.0.calls.made ≡ made
  pub up_is : me.0.calls.up ≡ made
  pub got_is : length me.0.calls.collected ≡ got
  pub draft_is : me.0.calls.draft ≡ []
  pub back_is : me.0.calls.back ≡ window
  pub got_le : got ≤ made
  pub room : made ≤ got + window
  pub left : made ≤ quota
  pub quota_small : quota ≤ 2 ^ 40
  pub holds : me.1 ≡ held me.0.terms caller (max window made) (got + window - max window made)
  pub numbers_many : length numbers ≡ window
  pub numbers_are : (j n : ℕ) (call : Call) → got ≤ j → j < made → get_elem? me.0.calls.made j ≡ some (n, call)
      → slice_index numbers (j % window) ≡ n

-- The cell of an entry, where it is the i-th of those taken.
abbrev pub cell_of : Terms → List Entry → ℕ → Option Entry → ℕ
cell_of k taken i none = 0
cell_of k taken i (some e) = cell k e.caller (count_of e.caller (take i taken))

-- The cell of the i-th call that was taken.
abbrev pub cell_at : Terms → List Entry → ℕ → ℕ
cell_at k taken i = cell_of k taken i (get_elem? taken i)

-- The empty slots of n taken calls, from the i-th on.
abbrev pub owed : Terms → List Entry → ℕ → ℕ → List (ℕ × Slot)
owed k taken i zero = []
owed k taken i (suc n) = (cell_at k taken i, None) ∷ owed k taken (i + 1) n

-- The driver's seat at rest: it has found no call, its counts are those of its view, it knows the cells of the calls that are taken
-- and not answered, and holds their slots.
pub record DriverIsReady (words : ℕ) (me : Holder) (base window callers_many taken answered : ℕ) (firsts counts order : List ℕ) : Type 0 where
  pub role : me.0.role ≡ Driving
  pub base_is : me.0.terms.base ≡ base
  pub window_is : me.0.terms.window ≡ window
  pub many : callers me.0.terms ≡ callers_many
  pub some_caller : 0 < callers_many
  pub few : callers_many ≤ 64
  pub some_cell : 0 < window
  pub small : window ≤ 64
  pub words_is : words ≡ 4 * (callers_many * window) + 2
  pub firsts_are : me.0.terms.firsts ≡ firsts
  pub firsts_small : (c : ℕ) → slice_index firsts c ≤ 2 ^ 61
  pub quota_small : me.0.terms.quota ≤ 2 ^ 40
  pub taken_is : length me.0.drives.taken ≡ taken
  pub answered_is : length me.0.drives.replies ≡ answered
  pub behind : answered ≤ taken
  pub within : taken ≤ answered + callers_many * window
  pub numbers : base + taken < 2 ^ 62
  pub counts_many : length counts ≡ callers_many
  pub counts_are : (c : ℕ) → c < callers_many → slice_index counts c ≡ count_of c me.0.drives.taken
  pub counts_small : (c : ℕ) → slice_index counts c ≤ me.0.terms.quota
  pub order_many : length order ≡ callers_many * window
  pub order_is : (i : ℕ) → answered ≤ i → i < taken → slice_index order (i % (callers_many * window)) ≡ cell_at me.0.terms me.0.drives.taken i
  pub order_in : (i : ℕ) → answered ≤ i → i < taken → cell_at me.0.terms me.0.drives.taken i < callers_many * window
  pub not_found : me.0.drives.found ≡ 0
  pub not_loaded : me.0.drives.loaded ≡ []
  pub holds : me.1 ≡ owed me.0.terms me.0.drives.taken answered (taken - answered)
