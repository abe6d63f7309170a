-- What becomes of touched leaves: their pieces with their ids, and the cells that they turn into.
use Rattle.std.specs.Prelude.{◌≡◌, ℕ, List, [], ◌∷◌, ◌++◌, length, map, Option}
use Rattle.std.specs.List.{flat_map}
use Rattle.std.proofs.Common.{zero}
use Rattle.palm_base.specs.Table.{after_all}
use Rattle.palm_base.specs.Pass.{Outcome}
use Rattle.palm_base.specs.declared.row.Row.{Row}
use Rattle.palm_node.specs.declared.id.NodeId.{NodeId}
use Rattle.palm_node.specs.declared.id.Piece.{Piece}
use Rattle.palm_node.specs.declared.node.Node.{Node}
use Rattle.palm_node.specs.declared.node.Node.TheVariants.{Leaf}
use Rattle.palm_node.specs.declared.change.Change.{Change}
use Rattle.palm_arena.specs.Cells.{Cell, Turns}
use Rattle.palm_route.specs.Edits.{edits_of}
use Rattle.palm_route.specs.declared.part.Group.{Group}
use Rattle.palm_leaf.specs.Answers.{rows_at}
use Rattle.palm_leaf.specs.Routed.{written_low}
use Rattle.palm_leaf.specs.Worked.{leaf_left}

-- What becomes of a leaf: where it is, the way to it, and its outcome.
-- So for the leaf at 2, by the way (0, 1), left with 7 rows, it is 2, this way, and no piece with 7 loose rows.
pub record LeafEnd : Type 0 where
  pub node : NodeId
  pub path : List (NodeId × ℕ)
  pub outcome : Outcome zero

-- Leaves at these ids as pieces, as many as there are of both. So at 1, 2 the leaves (0, a), (20, b) are (0, 1), (20, 2).
abbrev pub pieces_at : List NodeId → List (ℕ × List Row) → List Piece
pieces_at [] leaves = []
pieces_at (id ∷ ids) [] = []
pieces_at (id ∷ ids) (leaf ∷ leaves) = record { low = leaf.0; id = id } ∷ pieces_at ids leaves

-- The same leaves as cells. So at 1, 2 those above are (1, a), (2, b).
abbrev pub leaf_cells : List NodeId → List (ℕ × List Row) → List Cell
leaf_cells [] leaves = []
leaf_cells (id ∷ ids) [] = []
leaf_cells (id ∷ ids) (leaf ∷ leaves) = (id, Leaf leaf.1) ∷ leaf_cells ids leaves

-- The leaf at an id as a cell. So where the leaf b stands at 2, that of 2 is (2, b).
abbrev pub leaf_cell : (NodeId → Option Node) → NodeId → Cell
leaf_cell nodes id = (id, Leaf (rows_at nodes id))

-- The change of a leaf whose pieces are at these ids.
-- So for the leaf at 2 with the pieces (20, a), (28, b) the ids 2, 3 make it that of 2 with (20, 2), (28, 3).
abbrev pub change_at : List NodeId → LeafEnd → Change
change_at ids end = record { node = end.node; path = end.path; pieces = pieces_at ids end.outcome.pieces }

-- The changes of leaves, each with the ids of its pieces.
-- So for a leaf of two pieces and one of none, the ids (2, 3) and () make a change with pieces at 2 and 3, and one with none.
abbrev pub changes_at : List (List NodeId) → List LeafEnd → List Change
changes_at [] ends = []
changes_at (ids ∷ more) [] = []
changes_at (ids ∷ more) (end ∷ ends) = change_at ids end ∷ changes_at more ends

-- The cells of their pieces. So for a leaf of (20, a), (28, b) and one of no piece, the ids (2, 3) and () make (2, a), (3, b).
abbrev pub cells_at : List (List NodeId) → List LeafEnd → List Cell
cells_at [] ends = []
cells_at (ids ∷ more) [] = []
cells_at (ids ∷ more) (end ∷ ends) = leaf_cells ids end.outcome.pieces ++ cells_at more ends

-- Each leaf has as many ids as pieces. So (2, 3) and () fit a leaf of two pieces and one of none, and () and (2, 3) don't.
abbrev pub Fit : List (List NodeId) → List LeafEnd → Type 0
Fit [] [] = Unit {0}
Fit [] (end ∷ ends) = ⊥
Fit (ids ∷ more) [] = ⊥
Fit (ids ∷ more) (end ∷ ends) = (length ids ≡ length end.outcome.pieces) × Fit more ends

-- A map's leaves, the cells of which stand first, have become these ends, with these changes and loose rows.
-- So where the leaf at 2 has become 9 rows there and 8 at 3, there is one change, of 2 with pieces at 2 and 3, and no loose row.
pub record LeavesEnd (old new : NodeId → Option Node) (before : List Cell) (ends : List LeafEnd) (changes : List Change) (loose : List Row) : Type 0 where
  pub ids : List (List NodeId)
  pub fit : Fit ids ends
  pub changes-are : changes ≡ changes_at ids ends
  pub loose-are : loose ≡ flat_map (λ end. end.outcome.loose) ends
  pub turned : Turns old new before (cells_at ids ends)

-- What becomes of a group's leaf, with the least number of rows that it stands on with: its parts' edits are done to its rows.
-- So for Set 44 90 on the leaf of 44 120 it is one piece of 44 90 with the least 0, and no piece and the loose row 44 90 with
-- the least 8.
abbrev pub end_of : (NodeId → Option Node) → ℕ → Group → LeafEnd
end_of nodes least group = record {
  node = group.leaf;
  path = group.path;
  outcome = leaf_left least (written_low group.path group.low) (after_all (rows_at nodes group.leaf) (edits_of group.parts));
}

-- The leaves of groups as cells. So those of a group of the leaf a at 1 and one of the leaf b at 2 are (1, a), (2, b).
abbrev pub group_cells : (NodeId → Option Node) → List Group → List Cell
group_cells nodes groups = map (λ group. leaf_cell nodes group.leaf) groups
