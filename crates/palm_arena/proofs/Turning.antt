-- How lending, giving back, taking and dropping turn the nodes that places hold.
use Rattle.std.proofs.Common.{◌≡◌, List, [], ◌∷◌, ◌++◌, None, refl, sym, ap, append_assoc, subst}
use Rattle.std.specs.Prelude.{Option}
use Rattle.palm_node.specs.declared.id.NodeId.{NodeId}
use Rattle.palm_node.specs.declared.node.Node.{Node}
use Rattle.palm_arena.specs.declared.place.Place.{Place}
use Rattle.palm_arena.specs.declared.place.Place.TheVariants.{Empty, Lent, Holds}
use Rattle.palm_arena.specs.ArenaState.{node_in, node_at, with_place, IsLent, IsVacant}
use Rattle.palm_arena.specs.Reads.{map_of}
use Rattle.palm_arena.specs.Cells.{Cell, Owns, SameCells, ChangesAt, Turns}
use Rattle.palm_arena.proofs.CellLists.{owned_taken, owned_dropped, owned_same, same_append}
use Rattle.palm_arena.proofs.Standing.{put_stands, others_stay}

-- A place is put: the map changes at its id alone.
pub put_changes : (places : List Place) (id : NodeId) (place : Place) → ChangesAt id (node_in place) (map_of places) (map_of (with_place places id place))
put_changes places id place = record {
  here = ap node_in (put_stands places id place);
  elsewhere = λ other apart. ap node_in (others_stay places id other place (λ e. apart (sym e)));
}

-- A node is lent.
pub lend_turns : (places : List Place) (id : NodeId) (node : Node) → Turns (map_of places) (map_of (with_place places id Lent)) ((id, node) ∷ []) []
lend_turns places id node others owned = owned_dropped (map_of places) (map_of (with_place places id Lent)) id node others owned (put_changes places id Lent)

-- A node is dropped.
pub drop_turns : (places : List Place) (id : NodeId) (node : Node) → Turns (map_of places) (map_of (with_place places id Empty)) ((id, node) ∷ []) []
drop_turns places id node others owned = owned_dropped (map_of places) (map_of (with_place places id Empty)) id node others owned (put_changes places id Empty)

-- A node is put where none stands: a lent one is given back, or a new one is taken.
pub put_turns : (places : List Place) (id : NodeId) (node : Node) → node_at places id ≡ None → Turns (map_of places) (map_of (with_place places id (Holds node))) [] ((id, node) ∷ [])
put_turns places id node none others owned = owned_taken (map_of places) (map_of (with_place places id (Holds node))) id node others owned none (put_changes places id (Holds node))

pub lent_none : (places : List Place) (id : NodeId) → IsLent places id → node_at places id ≡ None
lent_none places id lent = ap node_in lent

pub vacant_none : (places : List Place) (id : NodeId) → IsVacant places id → node_at places id ≡ None
vacant_none places id vacant = ap node_in vacant

-- ---- turns in a row and side by side

pub turns_then : (a b c : NodeId → Option Node) (xs ys zs : List Cell) → Turns a b xs ys → Turns b c ys zs → Turns a c xs zs
turns_then a b c xs ys zs first then others owned = then others (first others owned)

-- What stands behind what turns stays.
pub turns_before : (a b : NodeId → Option Node) (xs ys zs : List Cell) → Turns a b xs ys → Turns a b (xs ++ zs) (ys ++ zs)
turns_before a b xs ys zs turns others owned =
    subst (Owns b) (sym (append_assoc ys zs others)) (turns (zs ++ others) (subst (Owns a) (append_assoc xs zs others) owned))

pub turns_same : (a b : NodeId → Option Node) (xs xs' ys ys' : List Cell) → SameCells xs' xs → SameCells ys ys' → Turns a b xs ys → Turns a b xs' ys'
turns_same a b xs xs' ys ys' left right turns others owned =
    owned_same b (ys ++ others) (ys' ++ others) (turns others (owned_same a (xs' ++ others) (xs ++ others) owned (same_append xs' xs others others left (λ i. refl)))) (same_append ys ys' others others right (λ i. refl))
