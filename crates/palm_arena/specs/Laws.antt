-- The laws of the definitions, which the functions of the module of laws carry.
use Rattle.std.specs.Prelude.{◌≡◌, ◌≢◌, List}
use Rattle.palm_node.specs.declared.id.NodeId.{NodeId}
use Rattle.palm_node.specs.declared.node.Node.{Node}
use Rattle.palm_arena.specs.declared.place.Place.{Place}
use Rattle.palm_arena.specs.declared.place.Place.TheVariants.{Lent, Holds}
use Rattle.palm_arena.specs.ArenaState.{place_at, with_place, NoneLent}

-- What is put at an id stands there. So Holds c at 2 stands at 2, whatever stood there before.
abbrev pub PutStands : Type 0
PutStands = (places : List Place) (id : NodeId) (place : Place) → place_at (with_place places id place) id ≡ place

-- What stands at another id stays. So Holds c at 2 leaves what stands at 1.
abbrev pub OthersStay : Type 0
OthersStay = (places : List Place) (id other : NodeId) (place : Place) → other ≢ id → place_at (with_place places id place) other ≡ place_at places other

-- Where nothing is lent, nothing is after a place was put that isn't Lent.
-- So (Holds a) with Holds c at 2 is (Holds a, Empty, Holds c), where nothing is lent.
abbrev pub NoneLentAfterPut : Type 0
NoneLentAfterPut = (places : List Place) (id : NodeId) (place : Place) → place ≢ Lent → NoneLent places → NoneLent (with_place places id place)

-- Where nothing is lent, nothing is after a node was lent and given back.
-- So (Holds a, Holds b) after 1 was lent and given back with c is (Holds a, Holds c), where nothing is lent.
abbrev pub NoneLentAfterReturn : Type 0
NoneLentAfterReturn = (places : List Place) (id : NodeId) (node : Node) → NoneLent places → NoneLent (with_place (with_place places id Lent) id (Holds node))
