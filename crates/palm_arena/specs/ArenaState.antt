-- What contracts see of an arena: its places, and what a batch under way began with and moved.
use Rattle.std.specs.Prelude.{◌≡◌, ℕ, List, [], ◌∷◌, Option, None, Some, IsSome, MatchOption, unwrap_or, slice_index_or}
use Rattle.std.specs.List.{Contains}
use Rattle.std.proofs.Common.{zero, suc}
use Rattle.palm_node.specs.declared.id.NodeId.{NodeId}
use Rattle.palm_node.specs.declared.node.Node.{Node}
use Rattle.palm_arena.specs.declared.place.Place.{Place}
use Rattle.palm_arena.specs.declared.place.Place.TheVariants.{Empty, Lent, Holds}

-- An arena. `places` is what stands at each place, which gives each live id its node; `begun` the places as they were when
-- the batch under way began, and nothing between batches; `moved` the ids that the latest batch lent or took, in order.
-- So with the nodes a and b, and b lent by a batch that changed nothing yet, the places are (Holds a, Lent), those at
-- begin (Holds a, Holds b), and the moved ids (1).
pub record ArenaState : Type 0 where
  pub places : List Place
  pub begun : Option (List Place)
  pub moved : List NodeId

-- What stands at an id's place, and Empty past the end. So in (Holds a, Lent) the place of 1 is Lent, and that of 2 Empty.
abbrev pub place_at : List Place → NodeId → Place
place_at places id = slice_index_or places id.place Empty

-- The node that a place holds, where it holds one. So a place that is lent holds none.
abbrev pub node_in : Place → Option Node
node_in Empty = None
node_in Lent = None
node_in (Holds node) = Some node

-- The node that stands at an id's place. So in (Holds a, Lent) the node at 0 is a, and there is none at 1 and 2.
abbrev pub node_at : List Place → NodeId → Option Node
node_at places id = node_in (place_at places id)

-- A node stands there, so that it can be read, lent and dropped. So in (Holds a, Lent) the id 0 is held.
abbrev pub IsHeld : List Place → NodeId → Type 0
IsHeld places id = IsSome (node_at places id)

-- The node is away in a lease. So in (Holds a, Lent) the id 1 is lent.
abbrev pub IsLent : List Place → NodeId → Type 0
IsLent places id = place_at places id ≡ Lent

-- No node stands there and none is away: the id is not live. So in (Holds a, Lent) the id 2 is vacant.
abbrev pub IsVacant : List Place → NodeId → Type 0
IsVacant places id = place_at places id ≡ Empty

-- The id was vacant when the batch under way began. So after (Holds a, Holds b) the ids 0 and 1 weren't, and 2 was.
abbrev pub IsVacantAtBegin : ArenaState → NodeId → Type 0
IsVacantAtBegin state id = MatchOption state.begun (Unit {0}) (λ begun. IsVacant begun id)

-- Each node is at its place. So nothing is lent in (Holds a, Empty).
abbrev pub NoneLent : List Place → Type 0
NoneLent places = (id : NodeId) → ¬ IsLent places id

-- The places with another at an index, appended where the list ends there, after as many empty ones as it lacks.
-- So (Holds a, Lent) with Lent at 3 is (Holds a, Lent, Empty, Lent).
abbrev pub set_place : List Place → ℕ → Place → List Place
set_place [] zero place = place ∷ []
set_place [] (suc i) place = Empty ∷ set_place [] i place
set_place (old ∷ places) zero place = place ∷ places
set_place (old ∷ places) (suc i) place = old ∷ set_place places i place

-- The places with another at an id. So (Holds a, Lent) with Holds b at 1 is (Holds a, Holds b), and with Holds c at 2 it is
-- (Holds a, Lent, Holds c).
abbrev pub with_place : List Place → NodeId → Place → List Place
with_place places id place = set_place places id.place place

-- The arena with the batch taken back: the places are those at its begin, or stay where none is under way.
-- So the one with (Holds a, Lent), begun with (Holds a, Holds b), becomes the one with (Holds a, Holds b).
abbrev pub undone : ArenaState → ArenaState
undone state = record { places = unwrap_or state.begun state.places; begun = None; moved = [] }

-- While a batch is under way, each live id that it neither lent nor took holds the node that it held at the begin.
-- So with (Holds a, Lent), begun with (Holds a, Holds b), and 1 moved, the id 0 has to hold a in both.
abbrev pub IsStill : ArenaState → Type 0
IsStill state =
    MatchOption state.begun (Unit {0}) (λ begun.
    (id : NodeId) → ¬ IsVacant state.places id → ¬ Contains state.moved id
    → IsHeld state.places id × (node_at begun id ≡ node_at state.places id))
