-- What contracts see of an arena after each of its calls.
use Rattle.std.proofs.Common.{◌≡◌, ◌≢◌, ◌⊎◌, ◌<◌, ℕ, List, [], ◌∷◌, ◌++◌, length, set, refl, sym, ap, ◌∙◌, inl, inr, Option, Some, None}
use Rattle.std.specs.Prelude.{IsSome, MatchOption}
use Rattle.std.specs.List.{Contains}
use Rattle.std.proofs.Math.ListN.{length-set}
use Rattle.palm_node.specs.declared.id.NodeId.{NodeId}
use Rattle.palm_node.specs.declared.node.Node.{Node}
use Rattle.palm_arena.specs.declared.place.Place.{Place}
use Rattle.palm_arena.specs.declared.place.Place.TheVariants.{Empty, Lent}
use Rattle.palm_arena.specs.declared.journal.Journal.{Journal}
use Rattle.palm_arena.specs.declared.arena.Arena.TheInside.{Inside}
use Rattle.palm_arena.specs.ArenaState.{ArenaState, place_at, IsLent, IsVacant, NoneLent, IsStill}
use Rattle.palm_arena.specs.Journal.{places_at_begin, begun_with, Saves, Puts, IsIdle, IsKept}
use Rattle.palm_arena.proofs.Keeping.{writing, placing, onward, beginning, stays}

pub seen : (p q : List Place) (b d : Option (List Place)) (m n : List NodeId) → p ≡ q → b ≡ d → m ≡ n
    → ◌≡◌ {A = ArenaState} (record { places = p; begun = b; moved = m }) (record { places = q; begun = d; moved = n })
seen p q b d m n same_places same_begun same_moved = λ i. record { places = same_places i; begun = same_begun i; moved = same_moved i }

-- What holds of an arena's fields.
abbrev pub Kept : Inside → Type 0
Kept a = IsKept a.begun a.journal a.places.items a.moved.items

-- The fields with another journal and other places and ids: they are kept, and what the batch began with stays.
abbrev pub Goes : Inside → Journal → List Place → List NodeId → Type 0
Goes a journal places moved = IsKept a.begun journal places moved × (begun_with a.begun journal places ≡ begun_with a.begun a.journal a.places.items)

abbrev pub IsUnderWay : Inside → Type 0
IsUnderWay a = IsSome (begun_with a.begun a.journal a.places.items)

-- A place is saved and written while a batch is under way.
pub placed : (a : Inside) (after : Journal) (listed : List NodeId) (id : NodeId) (place : Place)
    → IsUnderWay a → id.place < length a.places.items → Saves id (place_at a.places.items id) a.journal after → (place ≡ Empty) ⊎ Contains listed id
    → ((other : NodeId) → id.place ≢ other.place → Contains (a.moved.items ++ id ∷ []) other → Contains listed other)
    → Kept a → Goes a after (set a.places.items id.place place) listed
placed a after listed id place some within saves told others kept =
    onward a.begun a.journal after a.places.items (set a.places.items id.place place) a.moved.items listed some
    (λ count base keeps. placing count base a.journal after a.places.items a.moved.items listed id place within saves told others keeps) kept

-- A node is put while a batch is under way.
pub taken : (a : Inside) (after : Journal) (new : List Place) (id : NodeId) (node : Node)
    → IsUnderWay a → Puts id node a.journal a.places.items after new → Kept a → Goes a after new (a.moved.items ++ id ∷ [])
taken a after new id node some puts kept =
    onward a.begun a.journal after a.places.items new a.moved.items (a.moved.items ++ id ∷ []) some (λ count base keeps. puts.kept count base a.moved.items keeps) kept

-- The id at which it is put was vacant at the begin.
unused_by : (begun : Option ℕ) (journal after : Journal) (places new : List Place) (moved : List NodeId) (id : NodeId) (node : Node)
    → Puts id node journal places after new → IsKept begun journal places moved → MatchOption (begun_with begun journal places) (Unit {0}) (λ base. IsVacant base id)
unused_by None journal after places new moved id node puts kept = tt
unused_by (Some count) journal after places new moved id node puts kept = puts.unused count (places_at_begin count journal places) moved kept

pub unused : (a : Inside) (after : Journal) (new : List Place) (id : NodeId) (node : Node)
    → Puts id node a.journal a.places.items after new → Kept a → MatchOption (begun_with a.begun a.journal a.places.items) (Unit {0}) (λ base. IsVacant base id)
unused a after new id node puts kept = unused_by a.begun a.journal after a.places.items new a.moved.items id node puts kept

-- A lent place is written, whether a batch is under way or not.
returned_by : (begun : Option ℕ) (journal : Journal) (places : List Place) (moved : List NodeId) (id : NodeId) (place : Place)
    → IsLent places id → IsKept begun journal places moved
    → IsKept begun journal (set places id.place place) moved × (begun_with begun journal (set places id.place place) ≡ begun_with begun journal places)
returned_by None journal places moved id place lent kept =
    (record { marks = kept.marks ∙ sym (length-set places id.place place); saved = kept.saved; marked = kept.marked }, refl)
returned_by (Some count) journal places moved id place lent kept =
    onward (Some count) journal journal places (set places id.place place) moved moved refl
    (λ n base keeps.
    let marked = keeps.lent id lent in
    let listed : (place ≡ Empty) ⊎ Contains moved id = elim (keeps.listed id marked) [
      | inl vacant ↦ (let e : Lent ≡ Empty = sym lent ∙ vacant in cc)
      | inr moved ↦ inr moved
    ] in
    writing n base journal places moved moved id place marked listed (λ other apart was. was) keeps) kept

pub returned : (a : Inside) (id : NodeId) (place : Place) → IsLent a.places.items id → Kept a → Goes a a.journal (set a.places.items id.place place) a.moved.items
returned a id place lent kept = returned_by a.begun a.journal a.places.items a.moved.items id place lent kept

still_by : (begun : Option ℕ) (journal : Journal) (places : List Place) (moved : List NodeId)
    → IsKept begun journal places moved → IsStill (record { places = places; begun = begun_with begun journal places; moved = moved })
still_by None journal places moved kept = tt
still_by (Some count) journal places moved kept = λ id live unmoved. stays count (places_at_begin count journal places) journal places moved id kept live unmoved

-- What didn't move is as it was at the begin.
pub still : (a : Inside) → Kept a → IsStill (record { places = a.places.items; begun = begun_with a.begun a.journal a.places.items; moved = a.moved.items })
still a kept = still_by a.begun a.journal a.places.items a.moved.items kept

idle_by : (begun : Option ℕ) (journal : Journal) (places : List Place) (moved : List NodeId) → begun_with begun journal places ≡ None → IsKept begun journal places moved → IsIdle journal places
idle_by None journal places moved none kept = kept
idle_by (Some count) journal places moved none kept = cc

-- A batch that begins where nothing is lent begins with what stands there.
pub begins : (a : Inside) (count : ℕ) → begun_with a.begun a.journal a.places.items ≡ None → NoneLent a.places.items → count ≡ length a.places.items → Kept a
    → places_at_begin count a.journal a.places.items ≡ a.places.items
begins a count none home all kept =
    ap (λ (n : ℕ). places_at_begin n a.journal a.places.items) all
    ∙ (beginning a.journal a.places.items home (idle_by a.begun a.journal a.places.items a.moved.items none kept)).restores
