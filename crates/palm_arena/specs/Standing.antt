-- What holds between the levels of a pass: each node of a level has become what the serial rule makes of it, and all else
-- is as it was.
use Rattle.std.specs.Prelude.{◌≡◌, ℕ, Bool, true, false, List, [], ◌∷◌, ◌++◌, map, filter, if◌then◌else◌, Option}
use Rattle.std.specs.List.{flat_map, AllByRecursion, list_any}
use Rattle.std.specs.List.Sorted.{IsPermutation}
use Rattle.std.proofs.Common.{zero, suc}
use Rattle.palm_base.specs.Tree.{rows_in}
use Rattle.palm_base.specs.declared.row.Row.{Row}
use Rattle.palm_node.specs.declared.id.NodeId.{NodeId}
use Rattle.palm_node.specs.declared.node.Node.{Node}
use Rattle.palm_node.specs.declared.change.Change.{Change}
use Rattle.palm_node.specs.declared.change.Changes.{Changes}
use Rattle.palm_node.specs.declared.change.Removed.{Removed}
use Rattle.palm_arena.specs.Cells.{Cell, Owns, HasCells}
use Rattle.palm_arena.specs.Placed.{Placed, value_in, values, node_of, cells_of, cells_under, bare}
use Rattle.palm_arena.specs.Sites.{Site, raised, sites_at, cells_above, outcome_at}

-- A touched leaf is the node, or is under it. So the root over the leaves 1 and 2 is touched where 2 is.
abbrev pub is_touched : (NodeId → Bool) → (l : ℕ) → Placed l → Bool
is_touched touched zero placed = touched placed.0
is_touched touched (suc l) placed = list_any (λ child. is_touched touched l child.1) placed.1

-- The node's own cell, where it isn't touched. So of the leaf a at 1 it is (1, a), and none where 1 is touched.
abbrev pub untouched_own : (NodeId → Bool) → (l : ℕ) → Placed l → List Cell
untouched_own touched l placed = let own = (placed.0, node_of l placed.1) ∷ [] in if is_touched touched l placed then [] else own

-- The cells of the untouched nodes at a node and under it.
-- So of the root over the leaves 1 and 2 they are that of 1 where 2 alone is touched, and all three where neither is.
abbrev pub untouched_cells : (NodeId → Bool) → (l : ℕ) → Placed l → List Cell
untouched_cells touched zero placed = untouched_own touched zero placed
untouched_cells touched (suc l) placed = untouched_own touched (suc l) placed ++ flat_map (λ child. untouched_cells touched l child.1) placed.1

-- Those at the sites of a level and under them. So at the sites of the leaves 1, 2 and 3 they are those of 1 and 3 where 2 alone
-- is touched.
abbrev pub untouched_at : (NodeId → Bool) → (l : ℕ) → List (Site l) → List Cell
untouched_at touched l sites = flat_map (λ site. untouched_cells touched l site.place) sites

-- What stands for a node after the pass: the pieces in its place, each with its low and its id.
-- So for the leaf at 2 from 20 on, left with 17 rows, the tenth by 28, they may be (20, (2, 9 rows)), (28, (3, 8 rows)).
pub record Result (l : ℕ) : Type 0 where
  pub site : Site l
  pub pieces : List (ℕ × Placed l)

-- The node is touched. So of the leaf at 2 it is where 2 is touched, and isn't where 1 alone is.
abbrev pub is_hit : (NodeId → Bool) → (l : ℕ) → Result l → Bool
is_hit touched l result = is_touched touched l result.site.place

-- An untouched node stands for itself, with all that is under it.
-- So where nothing touches the leaf b at 2 from 20 on, its pieces are (20, (2, b)) alone.
abbrev pub StandsForItself : (NodeId → Bool) → (l : ℕ) → Result l → Type 0
StandsForItself touched l result = is_hit touched l result ≡ false → result.pieces ≡ (result.site.low, result.site.place) ∷ []

-- The pieces are those that the serial rule gives. Of a root leaf it is asked only where it is touched: the rule makes no
-- piece of no rows, but an empty root leaf that is left alone stands for itself.
-- So a leaf below the root that is left with 17 rows has pieces of 9 and 8, and one left with 7 has none.
abbrev pub IsRight : (NodeId → Bool) → (l d : ℕ) → Result l → Type 0
IsRight touched zero zero result = is_hit touched zero result ≡ true → values zero result.pieces ≡ (outcome_at zero zero result.site).pieces
IsRight touched zero (suc d) result = values zero result.pieces ≡ (outcome_at zero (suc d) result.site).pieces
IsRight touched (suc l) d result = values (suc l) result.pieces ≡ (outcome_at (suc l) d result.site).pieces

-- The rows that the serial rule leaves loose of a node.
-- So of a leaf below the root that is left with 7 rows they are these 7, and of one left with 8 there are none.
abbrev pub loose_of : (l d : ℕ) → Result l → List Row
loose_of l d result = (outcome_at l d result.site).loose

-- The change of a node: where it was, the way to it, and its pieces.
-- So of the leaf at 2, by the way (0, 1), it is that of 2, with this way and with pieces such as (20, 2), (28, 3).
abbrev pub change_of : (l : ℕ) → Result l → Change
change_of l result = record { node = result.site.place.0; path = result.site.path; pieces = bare result.pieces }

-- An inner node that was removed with children left: how many levels are below it, and itself with all that is under it.
-- So it is with a node of level 2, counted from the leaves at 1, one level of which, its leaves, is below it.
pub record Kept : Type 0 where
  pub below : ℕ
  pub place : Placed below

-- The cells of a removed node and of all that is under it.
-- So those of one at 4 over the leaves a at 1 and b at 2 are its own, (1, a) and (2, b).
abbrev pub kept_cells : Kept → List Cell
kept_cells kept = cells_of kept.below kept.place

-- The rows under a removed node, from left to right. So under one over the leaves of 1, 10 and of 2 they are 1, 10, 2.
abbrev pub kept_rows : Kept → List Row
kept_rows kept = rows_in kept.below (value_in kept.below kept.place.1)

-- As the changes name it: its level is counted from the leaves at 1.
-- So one at 4 over leaves is named by the level 2 and the id 4.
abbrev pub removed_of : Kept → Removed
removed_of kept = record { level = suc kept.below; id = kept.place.0 }

-- The changes of the level l stand for a pass over the tree at `root`, which is d levels above it: each node of the level has
-- its pieces, an untouched one itself; the changes are those of the touched nodes, from left to right; the loose rows with
-- the rows under the removed nodes are the loose rows of the serial rule, each once; and a map holds the nodes above the
-- level as they were, the pieces with all that is under them, the removed nodes with all that is under them, and `rest`,
-- with no id met twice. Among these are the untouched nodes of the level and under it, each at its id and as it was.
-- So for Set 44 90 over the empty leaf at 3, which is touched, 3 has the leaf of 44 90, and the changes are one of 3 with the
-- piece (0, 3).
pub record Stands (d l : ℕ) (root : Site (raised l d)) (touched : NodeId → Bool) (rest : List Cell) (nodes : NodeId → Option Node) (changes : Changes) : Type 0 where
  pub results : List (Result l)
  pub kept : List Kept
  pub sites : map (λ result. result.site) results ≡ sites_at d l root
  pub still : AllByRecursion (StandsForItself touched l) results
  pub right : AllByRecursion (IsRight touched l d) results
  pub changed : changes.nodes ≡ map (change_of l) (filter (is_hit touched l) results)
  pub removed : changes.removed ≡ map removed_of kept
  pub loose : IsPermutation (changes.loose ++ flat_map kept_rows kept) (flat_map (loose_of l d) results)
  pub owned : Owns nodes (cells_above d l root ++ (cells_under l (flat_map (λ result. result.pieces) results) ++ (flat_map kept_cells kept ++ rest)))
  pub untouched : HasCells nodes (cells_above d l root ++ untouched_at touched l (sites_at d l root))
