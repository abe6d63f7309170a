-- The nodes of a level with what stands for their children, and what is left of them.
use Rattle.std.specs.Prelude.{◌≡◌, ℕ, ◌-◌, ◌&&◌, if◌then◌else◌, Bool, true, List, [], ◌∷◌, ◌++◌, length, map, Option}
use Rattle.std.specs.List.{flat_map, AllByRecursion}
use Rattle.std.proofs.Common.{suc}
use Rattle.palm_base.specs.Pass.{nodes_over, node_over, is_small, rows_under}
use Rattle.palm_base.specs.Lawful.{next_low, HasFromTo}
use Rattle.palm_base.specs.declared.bounds.TheConstants.{LEAST_CHILDREN, MOST_CHILDREN}
use Rattle.palm_base.specs.declared.row.Row.{Row}
use Rattle.palm_node.specs.declared.id.NodeId.{NodeId}
use Rattle.palm_node.specs.declared.node.Node.{Node}
use Rattle.palm_node.specs.declared.node.Node.TheVariants.{Inner}
use Rattle.palm_arena.specs.Cells.{Cell, Turns}
use Rattle.palm_arena.specs.Placed.{Body, Placed, values, ids_of_children, with_ids, own_cells}
use Rattle.palm_arena.specs.Routes.{separators_of}
use Rattle.palm_arena.specs.Sites.{Site, raised, sites_at, sites_below, cell_of_site}
use Rattle.palm_arena.specs.Standing.{Result, Kept, is_touched}
use Rattle.palm_arena.proofs.SitePasses.{site_pass}

-- A node of a level with what stands for its children, and the ids of its pieces. So that of a node at 3 over 8 leaves, one
-- of which was cut in two, has the site of 3, eight results with nine pieces in all, and the id 3.
pub record Family (l : ℕ) : Type 0 where
  pub parent : Site (suc l)
  pub children : List (Result l)
  pub ids : List NodeId

-- The pieces are those that the serial rule makes of the node, where it isn't the root.
-- So those of a leaf of 16 rows to which the Set of one more goes are leaves of 9 and 8, under whatever ids.
abbrev pub IsPassed : (l : ℕ) → Result l → Type 0
IsPassed l result = values l result.pieces ≡ (site_pass l result.site).pieces

-- What is left of a node with these children: the nodes that they are cut into, and none where they are few.
-- So of 17 children with the low 5 there are nodes of 9 and 8, the first at 5, and of 7 children none.
abbrev pub left_of : {T : Type 0} → ℕ → List (ℕ × T) → List (ℕ × List (ℕ × T))
left_of low children = let nodes = nodes_over low children in if is_small LEAST_CHILDREN children then [] else nodes

-- The pieces that stand for the nodes of a level, from left to right.
-- So where p stands for one node, nothing for the next, and q, r for a third, they are p, q, r.
abbrev pub pieces_under : (l : ℕ) → List (Result l) → List (ℕ × Placed l)
pieces_under l results = flat_map (λ result. result.pieces) results

-- The rows under children that are too few for a node.
-- So under 7 leaves of 8 rows each they are all 56, and under 8 leaves there are none.
abbrev pub gone_of : (l : ℕ) → List (ℕ × Placed l) → List Row
gone_of l children = let rows = rows_under l (values l children) in if is_small LEAST_CHILDREN children then rows else []

-- What stands for the children of a family.
-- So where a and c stand for themselves, and nothing for b between them, it is a, c.
abbrev pub placed_left : (l : ℕ) → Family l → List (ℕ × Placed l)
placed_left l family = pieces_under l family.children

-- The nodes that are left of a family's parent, each with its low.
-- So of a parent with the low 20 that is left with 17 children there are two, of 9 and 8, the first at 20.
abbrev pub bodies_left : (l : ℕ) → Family l → List (ℕ × Body (suc l))
bodies_left l family = left_of family.parent.low (placed_left l family)

-- A leaf under the family's parent is touched. So it is so of a node over the leaves 4 to 11 where 7 is touched, and not where 12 alone is.
abbrev pub is_worked : (NodeId → Bool) → (l : ℕ) → Family l → Bool
is_worked touched l family = is_touched touched (suc l) family.parent.place

-- A touched node has the pieces that are left of it, and an untouched one itself. So a touched one with the low 20 and the
-- ids 3 and 9 that is left with 17 children has two pieces, at 3 and 9, and an untouched one at 3 with this low has (20, 3).
abbrev pub pieces_after : (NodeId → Bool) → (l : ℕ) → Family l → List (ℕ × Placed (suc l))
pieces_after touched l family =
    let parts = with_ids family.ids (bodies_left l family) in
    let same = (family.parent.low, family.parent.place) ∷ [] in
    if is_worked touched l family then parts else same

-- A touched node that is left with few children is removed, with them.
-- So one at 3 that is left with 7 leaves is kept with these, with one level below it, and left with 8 or with none it isn't.
abbrev pub kept_after : (NodeId → Bool) → (l : ℕ) → Family l → List Kept
kept_after touched l family =
    let kept = record { below = suc l; place = (family.parent.place.0, node_over (placed_left l family)) } ∷ [] in
    if is_worked touched l family && is_small LEAST_CHILDREN (placed_left l family) then kept else []

-- What becomes of a family's parent: its pieces. So that of a touched node at 3 with the ids 3 and 9, left with 17 children,
-- has the site of 3 and the pieces of 9 and 8 at 3 and 9.
abbrev pub result_after : (NodeId → Bool) → (l : ℕ) → Family l → Result (suc l)
result_after touched l family = record { site = family.parent; pieces = pieces_after touched l family }

-- The cell of a touched node before its work, and none of an untouched one.
-- So of a touched one at 3 it is the cell of 3 alone, without those of its children.
abbrev pub nodes_before : (NodeId → Bool) → (l : ℕ) → Family l → List Cell
nodes_before touched l family = let own = cell_of_site (suc l) family.parent ∷ [] in if is_worked touched l family then own else []

-- The cell of a parent that is left with few children, and none where it is left with enough. So of a parent at 3 left with
-- (0, 5), (7, 6) it is at 3 the one over 5 and 6 with the separator 7, and of one left with 8 there is none.
abbrev pub removed_node : (l : ℕ) → Family l → List Cell
removed_node l family =
    let own = (family.parent.place.0, Inner (record { children = ids_of_children (placed_left l family); separators = separators_of (placed_left l family) })) ∷ [] in
    if is_small LEAST_CHILDREN (placed_left l family) then own else []

-- The cells of the nodes that stand for a touched parent, and of the parent where it is removed. So of a touched one with the
-- ids 3 and 9 that is left with 17 children they are those of 9 and 8 at 3 and 9, and of one at 3 left with 7 its own alone.
abbrev pub nodes_after : (NodeId → Bool) → (l : ℕ) → Family l → List Cell
nodes_after touched l family =
    let nodes = own_cells l family.ids (bodies_left l family) ++ removed_node l family in
    if is_worked touched l family then nodes else []

-- A node below the root has no fewer and no more children than it may, and the low of the first is written 0.
-- So one with 8 children of the lows 0, 10, .. , 70 is full, and one with the first 7 of these isn't.
abbrev pub IsFull : (l : ℕ) → Site (suc l) → Type 0
IsFull l site = HasFromTo LEAST_CHILDREN MOST_CHILDREN site.place.1 × (next_low (λ child. child.0) 0 site.place.1 ≡ 0)

-- The children of a family are those of its parent.
-- So of a parent over the leaves 4 to 11 there are eight, at the sites of 4, 5, .. , 11 in this order.
abbrev pub IsFamily : (l : ℕ) → Family l → Type 0
IsFamily l family = map (λ result. result.site) family.children ≡ sites_below l family.parent

-- A touched node has as many ids as there is left of it.
-- So one that is left with 17 children has two, one left with 8 to 16 has one, and one left with 7 has none.
abbrev pub HasIds : (NodeId → Bool) → (l : ℕ) → Family l → Type 0
HasIds touched l family = is_worked touched l family ≡ true → length family.ids ≡ length (bodies_left l family)

-- The nodes above the results of a level were worked on: the map turns from what stood for the touched ones to what is left
-- of them. So where of the nodes 3 and 4 over leaves 3 alone is touched, and has the ids 3 and 9 and 17 children left, the
-- cell of 3 becomes those of 3 and 9, and that of 4 stays.
pub record Worked (d l : ℕ) (root : Site (raised l (suc d))) (touched : NodeId → Bool) (results : List (Result l)) (old new : NodeId → Option Node) (families : List (Family l)) : Type 0 where
  pub parents : map (λ family. family.parent) families ≡ sites_at d (suc l) root
  pub children : flat_map (λ family. family.children) families ≡ results
  pub own : AllByRecursion (IsFamily l) families
  pub ids : AllByRecursion (HasIds touched l) families
  pub full : AllByRecursion (λ family. IsFull l family.parent) families
  pub turned : Turns old new (flat_map (nodes_before touched l) families) (flat_map (nodes_after touched l) families)

-- How many items there are past the first. So of a, b, c there are 2.
abbrev pub past_first : {X : Type 0} → List X → ℕ
past_first items = length items - 1
