-- Look-ups that go down the tree beside each other, in lanes.
use Rattle.std.specs.Prelude.{◌≡◌, ℕ, ◌+◌, ◌-◌, ◌*◌, ◌^◌, ◌<◌, ◌≤◌, ◌⊎◌, List, [], ◌∷◌, length, map, take, count_by, nat_le, slice_get, slice_index_or, Option, Some}
use Rattle.std.specs.List.{AllByRecursion}
use Rattle.std.proofs.Common.{suc}
use Rattle.palm_base.specs.Key.{key}
use Rattle.palm_base.specs.Table.{best_for}
use Rattle.palm_base.specs.Fronts.{first_front}
use Rattle.palm_base.specs.LookUps.{looked}
use Rattle.palm_base.specs.declared.row.Row.{Row}
use Rattle.palm_base.specs.declared.call.Call.{Call}
use Rattle.palm_base.specs.declared.call.Call.TheVariants.{Set, Del, Get, Rate, List as Listing}
use Rattle.palm_base.specs.declared.call.Reply.{Reply}
use Rattle.palm_base.specs.declared.call.Entry.{Entry}
use Rattle.palm_node.specs.InnerNode.{InnerNode}
use Rattle.palm_node.specs.declared.id.NodeId.{NodeId}
use Rattle.palm_node.specs.declared.node.Node.TheVariants.{Inner}
use Rattle.palm_arena.specs.Reads.{map_of}
use Rattle.palm_arena.specs.declared.place.Place.{Place}
use Rattle.palm_tree.specs.Jumps.{IsFrontOf}
use Rattle.palm_tree.specs.declared.floor.Spot.{Spot}
use Rattle.palm_tree.specs.declared.look_ups.Lane.{Lane}
use Rattle.palm_tree.specs.declared.look_ups.Look.{Look}
use Rattle.palm_tree.specs.declared.look_ups.Look.TheVariants.{Answer, Again}

-- The key of a front of the number, where no longer front has a row.
-- So with the row of 44 it is the key of 44 or 442 for 442, and that of 4 is none.
pub record IsFrontKeyOf (rows : List Row) (number : List ℕ) (k : ℕ) : Type 0 where
  pub digits : ℕ
  pub front : IsFrontOf digits number
  pub key : key (take digits number) ≡ k
  pub best : first_front digits number rows ≡ best_for number rows

-- A call goes down by this key: a Get by that of its prefix, and a Rate by that of a front of its number. No other call goes down.
-- So Get 44 goes by the key of 44.
abbrev pub GoesBy : List Row → Call → ℕ → Type 0
GoesBy rows (Set prefix rate) k = ⊥
GoesBy rows (Del prefix) k = ⊥
GoesBy rows (Get prefix) k = key prefix ≡ k
GoesBy rows (Rate number) k = IsFrontKeyOf rows number k
GoesBy rows (Listing from to limit) k = ⊥

-- What is found for an entry: what it is answered as a look-up, or the key by which it goes down.
-- So for Set 44 5 that it is answered nothing, and for Get 44 the key of 44.
abbrev pub IsLook : List Row → Entry → Look → Type 0
IsLook rows entry (Answer found) = found ≡ looked rows entry
IsLook rows entry (Again k) = GoesBy rows entry.call k

-- A key by which it goes down once more is below the one that it went by. So after the key of 442 it may be that of 44.
abbrev pub IsLess : ℕ → Look → Type 0
IsLess k (Answer found) = Unit {0}
IsLess k (Again next) = next < k

-- A lane that carries one of the entries, among those that were taken so far.
-- So of Get 44, Get 45 the lane of the first place and the key of 44 is one.
pub record IsLane (rows : List Row) (entries : List Entry) (taken : ℕ) (lane : Lane) : Type 0 where
  pub inside : lane.place < taken
  pub entry : Entry
  pub here : slice_get entries lane.place ≡ Some entry
  pub goes : GoesBy rows entry.call lane.key

-- A lane carries the entry at this place. So among lanes of the places 2 and 5 one carries that at 5.
abbrev pub HasLane : ℕ → List Lane → Type 0
HasLane i [] = ⊥
HasLane i (lane ∷ lanes) = (lane.place ≡ i) ⊎ HasLane i lanes

-- The answer at this place is the one to the look-up there, and none to an edit.
-- So of Get 44, Set 44 5 the answers Value 5, None are so at both places on the table of 44 at 5.
abbrev pub IsAnswered : List Row → List Entry → List (Option Reply) → ℕ → Type 0
IsAnswered rows entries answers i = slice_get answers i ≡ slice_get (map (looked rows) entries) i

-- The answers to the entries that were taken so far: each is the one on the table, or still on its way in a lane.
-- So after Set 44 5, Get 45 they are none for the first, and for the second any while its lane is under way.
pub record AreUnderWay (rows : List Row) (entries : List Entry) (lanes : List Lane) (answers : List (Option Reply)) : Type 0 where
  pub few : length answers ≤ length entries
  pub carried : AllByRecursion (IsLane rows entries (length answers)) lanes
  pub answered : (i : ℕ) → i < length answers → HasLane i lanes ⊎ IsAnswered rows entries answers i

-- How far lanes can still go: each goes by lesser and lesser keys. So a lane of the key 5 can go 6 times.
abbrev pub way_left : List Lane → ℕ
way_left [] = 0
way_left (lane ∷ lanes) = suc lane.key + way_left lanes

-- How much is left to do: how far lanes can go, and for each entry that isn't taken yet how far its lane could.
-- So with a lane of the key 5 and no entry left it is 6.
abbrev pub work_left : List Entry → List Lane → List (Option Reply) → ℕ
work_left entries lanes answers = way_left lanes + (length entries - length answers) * 2 ^ 64

-- This holds of each lane and the spot at its place. So of the lanes of 44 and 45 it holds of that of 44 and the first spot.
abbrev pub EachSpot : (Lane → Spot → Type 0) → List Lane → List Spot → Type 0
EachSpot P lanes spots = (i : ℕ) (lane : Lane) (spot : Spot) → i < length lanes → P (slice_index_or lanes i lane) (slice_index_or spots i spot)

-- An inner node stands at the id. So it does at that of a root over two leaves.
abbrev pub IsFork : List Place → NodeId → Type 0
IsFork places id = (node : InnerNode) × (map_of places id ≡ Some (Inner node))

-- One spot is the child of another to which a key is routed. So over the leaves of 1, 10 and of 2 the second leaf, with the key
-- of 2 as its low, is the one for the key of 3.
pub record IsStep (places : List Place) (k : ℕ) (above spot : Spot) : Type 0 where
  pub node : InnerNode
  pub here : map_of places above.id ≡ Some (Inner node)
  pub child : slice_get node.children (count_by (λ s. nat_le s k) node.separators) ≡ Some spot.id
  pub low : slice_get (above.low ∷ node.separators) (count_by (λ s. nat_le s k) node.separators) ≡ Some spot.low

-- Each lane's spot went one level down. So from a root over two leaves each of them is one of the leaves.
abbrev pub AreSteps : List Place → List Lane → List Spot → List Spot → Type 0
AreSteps places lanes above below =
    (i : ℕ) (lane : Lane) (old new : Spot) → i < length lanes
    → IsStep places (slice_index_or lanes i lane).key (slice_index_or above i old) (slice_index_or below i new)
