-- From the leaves that a table is cut into up to the tree that one batch of its rows leaves.
use Rattle.std.proofs.Common.{◌≡◌, ℕ, zero, ◌<◌, ◌≤◌, List, [], ◌∷◌, length, map, Option, None, refl, sym, ap, subst, arith, ◌∙◌}
use Rattle.std.proofs.lemmas.List.{append-nil}
use Rattle.palm_base.specs.Cut.{piece_count}
use Rattle.palm_base.specs.declared.bounds.TheConstants.{MOST_LEAF_ROWS}
use Rattle.palm_base.specs.Table.{IsTable}
use Rattle.palm_base.specs.Tree.{Tree, rows_of}
use Rattle.palm_base.specs.Pass.{leaves_of, top, set_of, batch_tree}
use Rattle.palm_base.specs.Lawful.{IsLawful, IsOrderly}
use Rattle.palm_base.specs.Lows.{PrefixesHold, LowsAreKeys}
use Rattle.palm_base.specs.declared.row.Row.{Row}
use Rattle.palm_base.proofs.Batches.{batches_keep_rows}
use Rattle.palm_base.proofs.EmptyTree.{empty_is_lawful}
use Rattle.palm_base.proofs.Lows.{batches_keep_lows}
use Rattle.palm_base.proofs.PrefixRows.{sets_prefixes}
use Rattle.palm_base.proofs.RisingRows.{put_all_none}
use Rattle.palm_base.proofs.RisingTables.{key_bound, table_rises}
use Rattle.palm_arena.specs.ArenaState.{ArenaState, NoneLent}
use Rattle.palm_arena.specs.Reads.{map_of, IsWhole}
use Rattle.palm_arena.specs.Cells.{Owns}
use Rattle.palm_arena.specs.Placed.{value_of, cells_under}
use Rattle.palm_arena.specs.Passes.{StandsAlone}
use Rattle.palm_arena.specs.Levels.{IsLevel}
use Rattle.palm_arena.specs.declared.place.Place.{Place}
use Rattle.palm_arena.specs.declared.shape.Shape.{Shape}
use Rattle.palm_arena.proofs.OwnedTrees.{values_length, owned_reads, owned_whole}
use Rattle.palm_arena.proofs.Raised.{bare_length}
use Rattle.palm_node.specs.declared.id.NodeId.{NodeId}
use Rattle.palm_node.specs.declared.id.Piece.{Piece}
use Rattle.palm_node.specs.declared.node.Node.{Node}
use Rattle.palm_node.proofs.TopLevels.{leaves_orderly, leaves_count}
use Rattle.palm_tree.specs.BuiltLeaves.{AreLeaves}
use Rattle.palm_tree.specs.TreeValue.{tree_of, HoldsTree}
use Rattle.palm_tree.proofs.Values.{tree_reads}
use Rattle.palm_base.proofs.Builds.{leaf_top, leaves_lawful, built}

-- ---- the leaves, and the tree over them

-- The leaves are a level, over which the tree is the one that is meant.
pub leaves_level : (rows : List Row) (nodes : NodeId → Option Node) (pieces : List Piece) → IsTable rows → AreLeaves rows nodes pieces → IsLevel (top zero (leaves_of 0 rows)) [] nodes 0 pieces
leaves_level rows nodes pieces table are = record {
  n = zero;
  below-is = refl;
  children = are.leaves;
  pieces = are.pieces-are;
  same = ap (top zero) are.values-are;
  orderly = subst (IsOrderly zero) (sym are.values-are) (leaves_orderly rows table);
  owned = subst (Owns nodes) (sym (append-nil (cells_under zero are.leaves))) are.owned;
}

pub leaves_some : (rows : List Row) (nodes : NodeId → Option Node) (pieces : List Piece) → 0 < length rows → AreLeaves rows nodes pieces → 1 ≤ length pieces
leaves_some rows nodes pieces some are =
    let count : length pieces ≡ piece_count MOST_LEAF_ROWS (length rows) =
    sym (ap length are.pieces-are) ∙ bare_length are.leaves ∙ sym (values_length zero are.leaves) ∙ ap length are.values-are ∙ leaves_count rows in
    omega (arith, some, count)

alone_lawful : (rows : List Row) (nodes : NodeId → Option Node) (shape : Shape) → IsTable rows → (alone : StandsAlone (top zero (leaves_of 0 rows)) [] nodes shape) → IsLawful (value_of alone.tree)
alone_lawful rows nodes shape table alone = subst IsLawful (sym alone.value-is) (leaves_lawful (key_bound rows) rows (table_rises rows table))

-- The tree over them stands alone, so that it is whole, and read.
pub alone_whole : (rows : List Row) (nodes : NodeId → Option Node) (shape : Shape) → IsTable rows → StandsAlone (top zero (leaves_of 0 rows)) [] nodes shape → IsWhole nodes shape
alone_whole rows nodes shape table alone = owned_whole nodes alone.tree shape (alone_lawful rows nodes shape table alone) alone.root alone.levels alone.owned

pub alone_read : (rows : List Row) (places : List Place) (shape : Shape) → IsTable rows → StandsAlone (top zero (leaves_of 0 rows)) [] (map_of places) shape → tree_of places shape ≡ top zero (leaves_of 0 rows)
alone_read rows places shape table alone =
    tree_reads places shape (value_of alone.tree) (owned_reads (map_of places) alone.tree [] shape (alone_lawful rows (map_of places) shape table alone) alone.root alone.levels alone.owned) ∙ alone.value-is

-- ---- the tree as one batch leaves it

empty_tree : Tree
empty_tree = (zero, [])

-- The batch of no rows leaves the empty tree.
pub none_built : (rows : List Row) → length rows ≡ 0 → (zero, []) ≡ batch_tree (zero, []) (map set_of rows)
unfolding empty_tree
none_built [] none = sym (built [] tt ∙ leaf_top [] (omega arith))
none_built (row ∷ rows) some = absurd (omega arith)

rows_built : (rows : List Row) → IsTable rows → rows_of (batch_tree (zero, []) (map set_of rows)) ≡ rows
unfolding empty_tree
rows_built rows table = batches_keep_rows empty_tree (map set_of rows) (empty_is_lawful empty_tree refl) ∙ put_all_none 0 (key_bound rows) rows (table_rises rows table)

pub holds_built : (arena : ArenaState) (shape : Shape) (rows : List Row) (count : ℕ) → arena.begun ≡ None → NoneLent arena.places → IsWhole (map_of arena.places) shape
    → tree_of arena.places shape ≡ top zero (leaves_of 0 rows) → IsTable rows → PrefixesHold rows → count ≡ length rows
    → HoldsTree arena shape count
unfolding empty_tree
holds_built arena shape rows count idle none_lent whole tree table prefixes counted =
    let batch : tree_of arena.places shape ≡ batch_tree (zero, []) (map set_of rows) = tree ∙ sym (built rows table) in
    record {
      idle = idle;
      none_lent = none_lent;
      whole = whole;
      lawful = subst IsLawful (sym tree) (leaves_lawful (key_bound rows) rows (table_rises rows table));
      lows = subst LowsAreKeys (sym batch) (batches_keep_lows empty_tree (map set_of rows) tt (sets_prefixes rows prefixes));
      count = ap (λ (t : Tree). length (rows_of t)) batch ∙ ap length (rows_built rows table) ∙ sym counted;
    }

pub value_built : (arena : ArenaState) (shape : Shape) (rows : List Row) → tree_of arena.places shape ≡ top zero (leaves_of 0 rows) → IsTable rows
    → tree_of arena.places shape ≡ batch_tree (zero, []) (map set_of rows)
value_built arena shape rows tree table = tree ∙ sym (built rows table)
