-- What is left at a desk that is closed, and how it is put in order.
use Rattle.std.specs.Prelude.{◌≡◌, ℕ, ◌+◌, ◌-◌, ◌*◌, ◌/◌, ◌%◌, ◌^◌, ◌<◌, ◌≤◌, ◌∷◌, ◌++◌, Bool, false, nat_le, nat_lt, if◌then◌else◌, List, [], length, take, drop, filter, slice_index, slice_set, vec_capacity, Option, None, Some}
use Rattle.std.specs.List.{enumerate_from}
use mathlib.Core.Option.{none, some}
use mathlib.Core.Option as maybe
use lib.ListN.{get_elem?}
use Rattle.palm_base.specs.Arrivals.{count_of}
use Rattle.palm_base.specs.Desk.{Placed, callers}
use Rattle.palm_base.specs.declared.call.Entry.{Entry}
use Rattle.palm_base.specs.declared.call.Reply.{Reply}
use Rattle.palm_base.specs.declared.desk.Terms.{Terms}
use Rattle.palm_desk.specs.Rule.{AreCalls, Begins, Bounded, cell, state_at, words_at}
use Rattle.palm_desk.specs.Views.{Slot, filled}
use Rattle.palm_desk.specs.Words.{spell}
use Rattle.palm_desk.specs.declared.driver.Left.{Left}

-- Room for the slots and the two lists of a desk with this many callers and cells, and a place for each caller's counts.
pub record HasRoomLeft (many cells : ℕ) (left : Left) : Type 0 where
  pub got : length left.got.items ≡ many
  pub made : length left.made.items ≡ many
  pub slots : left.slots.items ≡ []
  pub waiting : left.waiting.items ≡ []
  pub unread : left.unread.items ≡ []
  pub slots_room : cells ≤ vec_capacity left.slots
  pub waiting_room : cells ≤ vec_capacity left.waiting
  pub unread_room : cells ≤ vec_capacity left.unread

-- The end of a desk: its terms and its history, the replies to the first calls of it, and how many of its replies each caller has got.
pub record End : Type 0 where
  pub terms : Terms
  pub log : List Entry
  pub replies : List Reply
  pub got : ℕ → ℕ

-- The turn of the i-th call of the history among its caller's, and its cell.
abbrev pub turn_of : End → ℕ → Entry → ℕ
turn_of x i e = count_of e.caller (take i x.log)

abbrev pub cell_in : End → ℕ → Entry → ℕ
cell_in x i e = cell x.terms e.caller (turn_of x i e)

-- The i-th call of the history is this one, and its caller hasn't got a reply to it.
abbrev pub IsLeft : End → ℕ → Entry → Type 0
IsLeft x i e = (get_elem? x.log i ≡ some e) × (x.got e.caller ≤ turn_of x i e)

-- The words and the slots of a closed table show its end: the state of the cell of each call that is left has the call's number, its
-- words spell it, and where it has a reply its slot holds that.
pub record IsEnd (x : End) (words : List ℕ) : Type 0 where
  pub bounded : Bounded x.terms
  pub wide : length words ≡ 4 * (callers x.terms * x.terms.window) + 2
  pub placed : Placed x.terms x.log
  pub legal : AreCalls x.log
  pub small : x.terms.base + length x.log < 2 ^ 62
  pub answered : length x.replies ≤ length x.log
  pub quota : (c : ℕ) → c < callers x.terms → count_of c x.log ≤ x.terms.quota
  pub got_le : (c : ℕ) → c < callers x.terms → x.got c ≤ count_of c (take (length x.replies) x.log)
  pub room : (c : ℕ) → c < callers x.terms → count_of c x.log ≤ x.got c + x.terms.window
  pub numbered : (i : ℕ) (e : Entry) → IsLeft x i e
      → slice_index words (state_at (cell_in x i e)) / 4 ≡ x.terms.base + i
  pub spelled : (i : ℕ) (e : Entry) → IsLeft x i e → Begins words (words_at (cell_in x i e)) (spell e.call)

-- From the m-th call on, the reply to each call that is left stands in its slot.
abbrev pub RepliesStand : End → ℕ → List Slot → Type 0
RepliesStand x m slots =
    (i : ℕ) (e : Entry) (r : Reply) → m ≤ i → IsLeft x i e → get_elem? x.replies i ≡ some r
    → get_elem? slots (cell_in x i e) ≡ some (filled (x.terms.base + i) r)

-- Whether the call of this number is left.
abbrev pub is_left_at : End → ℕ → maybe.Option Entry → Bool
is_left_at x i none = false
is_left_at x i (some e) = nat_le (x.got e.caller) (turn_of x i e)

abbrev pub is_left : End → ℕ → Bool
is_left x n = is_left_at x (n - x.terms.base) (get_elem? x.log (n - x.terms.base))

-- The replies that are left among those to the first m calls, and the calls among these that have no reply.
abbrev pub unread_to : End → ℕ → List (ℕ × Reply)
unread_to x m = filter (λ answered. is_left x answered.0) (enumerate_from x.terms.base (take m x.replies))

abbrev pub waiting_to : End → ℕ → List Entry
waiting_to x m = drop (length x.replies) (take m x.log)

-- What is needed to put the rest of a desk in order: its end, with its terms and the number of the first call without a reply, all slots,
-- and for each caller how many calls it has collected and made.
pub record IsStart (x : End) (words firsts : List ℕ) (window first_waiting : ℕ) (left : Left) : Type 0 where
  pub at_end : IsEnd x words
  pub firsts_are : firsts ≡ x.terms.firsts
  pub firsts_small : (c : ℕ) → slice_index firsts c ≤ 2 ^ 61
  pub window_is : window ≡ x.terms.window
  pub number : first_waiting ≡ x.terms.base + length x.replies
  pub got_long : length left.got.items ≡ callers x.terms
  pub made_long : length left.made.items ≡ callers x.terms
  pub got_are : (c : ℕ) → c < callers x.terms → slice_index left.got.items c ≡ x.got c
  pub made_are : (c : ℕ) → c < callers x.terms → slice_index left.made.items c ≡ count_of c x.log
  pub slots_many : length left.slots.items ≡ callers x.terms * x.terms.window
  pub replies : RepliesStand x 0 left.slots.items
  pub waiting : left.waiting.items ≡ []
  pub unread : left.unread.items ≡ []
  pub waiting_room : callers x.terms * x.terms.window ≤ vec_capacity left.waiting
  pub unread_room : callers x.terms * x.terms.window ≤ vec_capacity left.unread

-- Some call of the caller c is left, and the number of the first of these, by the state word of its cell.
abbrev pub HasLeft : List ℕ → List ℕ → ℕ → Type 0
HasLeft got made c = slice_index got c < slice_index made c

abbrev pub number_at : List ℕ → ℕ → List ℕ → ℕ → ℕ
number_at words window got c = slice_index words (4 * (c * window + slice_index got c % window) + 2) / 4

-- The caller c has the least number n of all first calls that are left of the callers below this one.
pub record IsFirstLeft (words : List ℕ) (window : ℕ) (got made : List ℕ) (below c n : ℕ) : Type 0 where
  pub inside : c < below
  pub left : HasLeft got made c
  pub number : n ≡ number_at words window got c
  pub least : (d : ℕ) → d < below → HasLeft got made d → n ≤ number_at words window got d

-- What the look for the first call that is left finds among the callers below this one.
abbrev pub FindsFirst : List ℕ → ℕ → List ℕ → List ℕ → ℕ → Option (ℕ × ℕ) → Type 0
FindsFirst words window got made below None = (d : ℕ) → d < below → slice_index made d ≤ slice_index got d
FindsFirst words window got made below (Some f) = IsFirstLeft words window got made below f.0 f.1

-- The earlier of a caller's call that was found and another caller's.
abbrev pub earlier_of : Option (ℕ × ℕ) → ℕ → ℕ → Option (ℕ × ℕ)
earlier_of None c n = Some (c, n)
earlier_of (Some f) c n = if nat_lt n f.1 then Some (c, n) else Some f

-- The counts and the room are as before.
pub record KeepsCounts (old new : Left) : Type 0 where
  pub got : new.got.items ≡ old.got.items
  pub made : new.made.items ≡ old.made.items
  pub waiting_room : vec_capacity new.waiting ≡ vec_capacity old.waiting
  pub unread_room : vec_capacity new.unread ≡ vec_capacity old.unread

-- The reply of this number is put down, and its slot is empty.
pub record PutsUnread (old new : Left) (q n : ℕ) (r : Reply) : Type 0 where
  pub unread : new.unread.items ≡ old.unread.items ++ (n, r) ∷ []
  pub waiting : new.waiting.items ≡ old.waiting.items
  pub slots : new.slots.items ≡ slice_set old.slots.items q None

-- The call is put down.
pub record PutsWaiting (old new : Left) (e : Entry) : Type 0 where
  pub waiting : new.waiting.items ≡ old.waiting.items ++ e ∷ []
  pub unread : new.unread.items ≡ old.unread.items
  pub slots : new.slots.items ≡ old.slots.items
