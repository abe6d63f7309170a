-- What a batch's journal keeps, and how it is taken back.
use Rattle.std.specs.Prelude.{◌≡◌, ℕ, ◌<◌, ◌≤◌, ◌++◌, ◌⊎◌, Bool, true, false, if◌then◌else◌, List, [], ◌∷◌, length, take, slice_set, slice_index_or, Option, None, Some, option_map}
use Rattle.std.specs.List.{Contains}
use Rattle.palm_node.specs.declared.id.NodeId.{NodeId}
use Rattle.palm_node.specs.declared.node.Node.{Node}
use Rattle.palm_arena.specs.declared.place.Place.{Place}
use Rattle.palm_arena.specs.declared.place.Place.TheVariants.{Holds}
use Rattle.palm_arena.specs.declared.journal.Saved.{Saved}
use Rattle.palm_arena.specs.declared.journal.Journal.{Journal}
use Rattle.palm_arena.specs.ArenaState.{with_place, IsLent, IsVacant}

-- The places with what was saved put back, the last of it first.
-- So when a was saved for 0 and then Empty for 1, (Lent, Holds c) becomes (Holds a, Empty).
unfoldable pub undo : List Saved → List Place → List Place
undo [] places = places
undo (entry ∷ entries) places = slice_set (undo entries places) entry.id.place entry.place

-- The places at the begin of a batch that began with so many. So with (Lent, Holds c), a saved for 0 and Empty for 1, they
-- are (Holds a) where the batch began with one.
abbrev pub places_at_begin : ℕ → Journal → List Place → List Place
places_at_begin count journal places = undo journal.saved.items (take count places)

-- The same where a batch is under way, and nothing between batches.
-- So with the places and the entries above it is (Holds a) for a count of one, and nothing without a count.
abbrev pub begun_with : Option ℕ → Journal → List Place → Option (List Place)
begun_with begun journal places = option_map (λ count. places_at_begin count journal places) begun

-- The mark of the place is set. So 1 is marked in (false, true).
abbrev pub IsMarked : List Bool → ℕ → Type 0
IsMarked marks i = slice_index_or marks i false ≡ true

-- What stood at the place is saved. So 0 and 1 are saved where a was saved for 0 and then Empty for 1.
abbrev pub IsSaved : List Saved → ℕ → Type 0
IsSaved [] i = ⊥
IsSaved (entry ∷ entries) i = (entry.id.place ≡ i) ⊎ IsSaved entries i

-- No mark is set. So it is in (false, false).
abbrev pub NoneMarked : List Bool → Type 0
NoneMarked marks = (i : ℕ) → ¬ IsMarked marks i

-- Of each place that is marked it is saved what stood there, and only places below `end` are saved.
-- So for the marks (true, false) one entry for 0 covers what there is below 2.
pub record Covers (end : ℕ) (journal : Journal) : Type 0 where
  pub marks : length journal.touched.items ≡ end
  pub below : (i : ℕ) → IsSaved journal.saved.items i → i < end
  pub saved : (i : ℕ) → IsMarked journal.touched.items i → IsSaved journal.saved.items i

-- The same is saved of the same places, whatever is offered as free.
-- So it is after an id was tried that turned out to be in use.
pub record IsSame (before after : Journal) : Type 0 where
  pub touched : after.touched.items ≡ before.touched.items
  pub saved : after.saved.items ≡ before.saved.items

-- What stood at the place is saved, if it wasn't yet. So saving Lent for 0, where a was saved for it, changes nothing.
pub record Saves (id : NodeId) (place : Place) (before after : Journal) : Type 0 where
  pub touched : after.touched.items ≡ slice_set before.touched.items id.place true
  pub saved : after.saved.items ≡ (if slice_index_or before.touched.items id.place false then before.saved.items else before.saved.items ++ record { id = id; place = place } ∷ [])

-- A place past the end is saved as empty. So with one place, it is the place 1.
pub record Appends (id : NodeId) (place : Place) (before after : Journal) : Type 0 where
  pub touched : after.touched.items ≡ before.touched.items ++ true ∷ []
  pub saved : after.saved.items ≡ before.saved.items ++ record { id = id; place = place } ∷ []

-- A batch under way, which began with so many places, and with these. Exactly the places that it touched are saved. Those
-- past the ones that it began with are touched, and so are those that are lent. A touched place that is not empty is that
-- of an id that moved.
-- So where it began with (Holds a, Holds b) and lent 1, the places are (Holds a, Lent), the marks (false, true), b is saved for
-- 1, and 1 moved.
pub record Keeps (count : ℕ) (base : List Place) (journal : Journal) (places : List Place) (moved : List NodeId) : Type 0 where
  pub marks : length journal.touched.items ≡ length places
  pub within : count ≤ length places
  pub saved : (i : ℕ) → IsMarked journal.touched.items i → IsSaved journal.saved.items i
  pub marked : (i : ℕ) → IsSaved journal.saved.items i → IsMarked journal.touched.items i
  pub fresh : (i : ℕ) → count ≤ i → i < length places → IsMarked journal.touched.items i
  pub lent : (id : NodeId) → IsLent places id → IsMarked journal.touched.items id.place
  pub listed : (id : NodeId) → IsMarked journal.touched.items id.place → IsVacant places id ⊎ Contains moved id
  pub restores : undo journal.saved.items (take count places) ≡ base

-- A node is put at an id that is vacant, and was when the batch began, and the batch is kept. So it is at 1 where the places
-- are (Holds a).
pub record Puts (id : NodeId) (node : Node) (before : Journal) (old : List Place) (after : Journal) (new : List Place) : Type 0 where
  pub vacant : IsVacant old id
  pub placed : new ≡ with_place old id (Holds node)
  pub unused : (count : ℕ) (base : List Place) (moved : List NodeId) → Keeps count base before old moved → IsVacant base id
  pub kept : (count : ℕ) (base : List Place) (moved : List NodeId) → Keeps count base before old moved → Keeps count base after new (moved ++ id ∷ [])

-- Between batches nothing is saved and no place is touched. So with the places (Holds a, Empty) the marks are (false, false).
pub record IsIdle (journal : Journal) (places : List Place) : Type 0 where
  pub marks : length journal.touched.items ≡ length places
  pub saved : journal.saved.items ≡ []
  pub marked : NoneMarked journal.touched.items

-- What holds of an arena's parts, while a batch is under way and between batches.
-- So between batches (Holds a) has the marks (false), and a batch that lent 0 has the places (Lent), the marks (true), and a
-- saved for 0.
abbrev pub IsKept : Option ℕ → Journal → List Place → List NodeId → Type 0
IsKept None journal places moved = IsIdle journal places
IsKept (Some count) journal places moved = Keeps count (places_at_begin count journal places) journal places moved
