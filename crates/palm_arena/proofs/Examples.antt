-- Worked examples of the definitions, which the checker computes.
use Rattle.std.proofs.Common.{◌≡◌, ℕ, zero, suc, Bool, false, true, List, [], ◌∷◌, refl, Some, None, lit<}
use Rattle.std.specs.Prelude.{IsSome}
use Rattle.std.specs.List.{Contains, IsDistinct}
use Rattle.palm_base.specs.declared.row.Row.{Row}
use Rattle.palm_node.specs.declared.id.NodeId.{NodeId}
use Rattle.palm_node.specs.declared.node.Node.TheVariants.{Leaf, Inner}
use Rattle.palm_arena.specs.declared.place.Place.{Place}
use Rattle.palm_arena.specs.declared.place.Place.TheVariants.{Empty, Lent, Holds}
use Rattle.palm_arena.specs.declared.shape.Shape.{Shape}
use Rattle.palm_arena.specs.ArenaState.{place_at, node_at, with_place, undone}
use Rattle.palm_arena.specs.Journal.{undo}
use Rattle.palm_arena.specs.Reads.{map_of, reads, ids_of, same_place, IsWhole}
use Rattle.palm_arena.specs.Cells.{HasCells}
use Rattle.palm_arena.specs.Placed.{Placed, cells_of}
use Rattle.palm_arena.specs.Standing.{untouched_cells}
use Rattle.palm_arena.proofs.CellLists.{owned_front}

abbrev id : ℕ → NodeId
id place = record { place = place }

-- The leaves of 1 at 10 and of 2 at 20.
abbrev one : List Row
one = record { prefix = 1 ∷ []; rate = 10 } ∷ []

abbrev two : List Row
two = record { prefix = 2 ∷ []; rate = 20 } ∷ []

-- ---- places

abbrev lent_second : List Place
lent_second = Holds (Leaf one) ∷ Lent ∷ []

held-0 : node_at lent_second (id 0) ≡ Some (Leaf one)
held-0 = refl

-- A lent place holds no node, and neither does one past the end.
lent-1 : node_at lent_second (id 1) ≡ None
lent-1 = refl

past-2 : place_at lent_second (id 2) ≡ Empty
past-2 = refl

-- A place is replaced within the list, and appended at its end.
with-1 : with_place lent_second (id 1) (Holds (Leaf two)) ≡ Holds (Leaf one) ∷ Holds (Leaf two) ∷ []
with-1 = refl

with-2 : with_place lent_second (id 2) (Holds (Leaf two)) ≡ Holds (Leaf one) ∷ Lent ∷ Holds (Leaf two) ∷ []
with-2 = refl

-- Past the end there are empty places before it.
with-3 : with_place lent_second (id 3) Lent ≡ Holds (Leaf one) ∷ Lent ∷ Empty ∷ Lent ∷ []
with-3 = refl

-- ---- taking back

undone-second : undone (record { places = lent_second; begun = Some (Holds (Leaf one) ∷ Holds (Leaf two) ∷ []); moved = id 1 ∷ [] })
    ≡ record { places = Holds (Leaf one) ∷ Holds (Leaf two) ∷ []; begun = None; moved = [] }
undone-second = refl

-- What was saved first is put back last, and so is what counts.
undo-two : undo (record { id = id 0; place = Holds (Leaf one) } ∷ record { id = id 1; place = Empty } ∷ []) (Lent ∷ Holds (Leaf two) ∷ []) ≡ Holds (Leaf one) ∷ Empty ∷ []
unfolding undo
undo-two = refl

-- ---- trees

-- An inner node at 0, and under it the two leaves.
abbrev tree_places : List Place
tree_places = Holds (Inner (record { children = id 1 ∷ id 2 ∷ []; separators = 20 ∷ [] })) ∷ Holds (Leaf one) ∷ Holds (Leaf two) ∷ []

abbrev tree_shape : Shape
tree_shape = record { root = id 0; levels = 2 }

reads-root : reads (map_of tree_places) 1 (id 0) ≡ Some ((0, one) ∷ (20, two) ∷ [])
reads-root = refl

-- It reads as nothing with no level below it, or with two.
reads-root-0 : reads (map_of tree_places) 0 (id 0) ≡ None
reads-root-0 = refl

reads-root-2 : reads (map_of tree_places) 2 (id 0) ≡ None
reads-root-2 = refl

ids-tree : ids_of (map_of tree_places) tree_shape ≡ id 0 ∷ id 1 ∷ id 2 ∷ []
ids-tree = refl

-- Its places are a tree and nothing more.
live_is_met : (i : NodeId) → IsSome (map_of tree_places i) → Contains (id 0 ∷ id 1 ∷ id 2 ∷ []) i
live_is_met i live = at_place i.place live where
  at_place : (place : ℕ) → IsSome (map_of tree_places (id place)) → Contains (id 0 ∷ id 1 ∷ id 2 ∷ []) (id place)
  at_place zero live = (0, lit< tt, refl)
  at_place (suc zero) live = (1, lit< tt, refl)
  at_place (suc (suc zero)) live = (2, lit< tt, refl)
  at_place (suc (suc (suc place))) live = let e : false ≡ true = live in cc

whole-tree : IsWhole (map_of tree_places) tree_shape
unfolding IsDistinct
whole-tree = record {
  tree = ((1, (0, one) ∷ (20, two) ∷ []), (refl, refl));
  once = ((refl, (refl, tt)), ((refl, tt), (tt, tt)));
  met = live_is_met;
}

-- ---- untouched nodes

-- The tree with its ids, of which the leaf at 2 is touched.
abbrev root_node : Placed 1
root_node = (id 0, (0, (id 1, one)) ∷ (20, (id 2, two)) ∷ [])

abbrev touches_second : NodeId → Bool
touches_second other = same_place (id 2) other

-- The leaf at 1 is the one untouched node: the root is over a touched leaf.
untouched-first : untouched_cells touches_second 1 root_node ≡ (id 1, Leaf one) ∷ []
untouched-first = refl

untouched-all : untouched_cells (λ other. false) 1 root_node ≡ cells_of 1 root_node
untouched-all = refl

-- A map that has the leaf's rows at 3 in its stead reads as the same tree, and holds no untouched node.
abbrev copied_places : List Place
copied_places = Holds (Inner (record { children = id 3 ∷ id 2 ∷ []; separators = 20 ∷ [] })) ∷ Empty ∷ Holds (Leaf two) ∷ Holds (Leaf one) ∷ []

reads-copied : reads (map_of copied_places) 1 (id 0) ≡ Some ((0, one) ∷ (20, two) ∷ [])
reads-copied = refl

copied-gone : ¬ HasCells (map_of copied_places) (untouched_cells touches_second 1 root_node)
copied-gone has = let gone : None ≡ Some (Leaf one) = (owned_front (map_of copied_places) (id 1) (Leaf one) has.0 has.1).0 in absurd cc
