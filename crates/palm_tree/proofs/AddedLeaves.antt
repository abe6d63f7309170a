-- The leaves that sorted rows are cut into, put into an arena one after another.
use Rattle.std.proofs.Common.{◌≡◌, ℕ, zero, ◌+◌, ◌<◌, ◌≤◌, cond, List, [], ◌∷◌, ◌++◌, length, take, drop, refl, sym, ap, subst, arith, ◌∙◌}
use Rattle.std.specs.Prelude.{◌==◌}
use Rattle.std.proofs.lemmas.List.{take-append-drop, map-append}
use Rattle.std.proofs.lemmas.List.Concat.{flat_map-append}
use Rattle.std.proofs.lemmas.List.Elements.{recursion_from_All}
use Rattle.palm_base.specs.Table.{row_key, IsTable}
use Rattle.palm_base.specs.Prefix.{IsPrefix}
use Rattle.palm_base.specs.Cut.{piece_count, piece_size}
use Rattle.palm_base.specs.Pass.{first_low, with_lows, leaves_of}
use Rattle.palm_base.specs.Lows.{PrefixesHold}
use Rattle.palm_base.specs.declared.row.Row.{Row}
use Rattle.palm_base.specs.declared.bounds.TheConstants.{MOST_LEAF_ROWS, LEAST_LEAF_ROWS}
use Rattle.palm_base.proofs.Every.{every_append}
use Rattle.palm_base.proofs.Tables.{table_take, table_drop}
use Rattle.palm_node.specs.LeafRows.{IsLeaf}
use Rattle.palm_node.specs.declared.id.NodeId.{NodeId}
use Rattle.palm_node.specs.declared.id.Piece.{Piece}
use Rattle.palm_node.specs.declared.node.Node.TheVariants.{Leaf}
use Rattle.palm_arena.specs.ArenaState.{with_place, IsVacant, NoneLent}
use Rattle.palm_arena.specs.Reads.{map_of}
use Rattle.palm_arena.specs.declared.place.Place.{Place}
use Rattle.palm_arena.specs.declared.place.Place.TheVariants.{Holds}
use Rattle.palm_arena.proofs.Standing.{none_lent_after_put}
use Rattle.palm_arena.specs.Cells.{Owns}
use Rattle.palm_arena.specs.Placed.{Placed, values, bare, cells_of, cells_under}
use Rattle.palm_arena.proofs.CellLists.{owned_same, same_swap}
use Rattle.palm_arena.proofs.OwnedTrees.{values_length}
use Rattle.palm_arena.proofs.Raised.{bare_length}
use Rattle.palm_arena.proofs.Turning.{put_turns, vacant_none}
use Rattle.palm_tree.specs.BuiltLeaves.{AreLeaves}
use Rattle.palm_base.proofs.CutSteps.{pieces_left, IsCutTo, left_first, left_next, left_last, cut_first, cut_next, later_nodes, next_own, nodes_next, nodes_last}

-- The leaves of the pieces before the i-th are put, and the rest of the rows is left.
pub record LeavesSoFar (rows : List Row) (i : ℕ) (places : List Place) (rest : List Row) (made : List Piece) : Type 0 where
  pub leaves : List (ℕ × Placed zero)
  pub pieces : bare leaves ≡ made
  pub owned : Owns (map_of places) (cells_under zero leaves)
  pub front : values zero leaves ++ later_nodes row_key (λ part. part) (values zero leaves) (pieces_left MOST_LEAF_ROWS (length rows) i rest) ≡ leaves_of 0 rows
  pub cut : IsCutTo MOST_LEAF_ROWS (length rows) i rest
  pub table : IsTable rest
  pub none_lent : NoneLent places
  pub prefixes : PrefixesHold rest → PrefixesHold rows

pub leaves_first : (rows : List Row) (places : List Place) (made : List Piece) → IsTable rows → places ≡ [] → made ≡ [] → LeavesSoFar rows 0 places rows made
leaves_first rows places made table empty none = rw (empty, none) (record {
  leaves = [];
  pieces = refl;
  owned = λ id. refl;
  front = ap (with_lows row_key (λ part. part) 0) (left_first MOST_LEAF_ROWS rows);
  cut = cut_first LEAST_LEAF_ROWS rows (omega arith);
  table = table;
  none_lent = λ id lent. absurd cc;
  prefixes = λ all. all;
})

-- ---- one leaf more

bare_more : (leaves : List (ℕ × Placed zero)) (leaf : ℕ × Placed zero) → bare (leaves ++ leaf ∷ []) ≡ bare leaves ++ record { low = leaf.0; id = leaf.1.0 } ∷ []
bare_more leaves leaf = map-append (λ (child : ℕ × Placed zero). let piece : Piece = record { low = child.0; id = child.1.0 } in piece) leaves (leaf ∷ [])

values_more : (leaves : List (ℕ × Placed zero)) (leaf : ℕ × Placed zero) → values zero (leaves ++ leaf ∷ []) ≡ values zero leaves ++ (leaf.0, leaf.1.1) ∷ []
values_more leaves leaf = map-append (λ (child : ℕ × Placed zero). let pair : ℕ × List Row = (child.0, child.1.1) in pair) leaves (leaf ∷ [])

cells_more : (leaves : List (ℕ × Placed zero)) (leaf : ℕ × Placed zero) → cells_under zero (leaves ++ leaf ∷ []) ≡ cells_under zero leaves ++ (leaf.1.0, Leaf leaf.1.1) ∷ []
cells_more leaves leaf = flat_map-append (λ (child : ℕ × Placed zero). cells_of zero child.1) leaves (leaf ∷ [])

owned_more : (places : List Place) (leaves : List (ℕ × Placed zero)) (low : ℕ) (id : NodeId) (part : List Row) → IsVacant places id → Owns (map_of places) (cells_under zero leaves)
    → Owns (map_of (with_place places id (Holds (Leaf part)))) (cells_under zero (leaves ++ (low, (id, part)) ∷ []))
owned_more places leaves low id part vacant owned =
    let now = map_of (with_place places id (Holds (Leaf part))) in
    let more : Owns now ((id, Leaf part) ∷ cells_under zero leaves) = put_turns places id (Leaf part) (vacant_none places id vacant) (cells_under zero leaves) owned in
    subst (Owns now) (sym (cells_more leaves (low, (id, part))))
    (owned_same now ((id, Leaf part) ∷ cells_under zero leaves) (cells_under zero leaves ++ (id, Leaf part) ∷ []) more (same_swap ((id, Leaf part) ∷ []) (cells_under zero leaves)))

pub leaves_next : (rows : List Row) (i : ℕ) (places : List Place) (rest part : List Row) (made : List Piece) (size low : ℕ) (id : NodeId)
    → LeavesSoFar rows i places rest made → i < piece_count MOST_LEAF_ROWS (length rows) → size ≡ piece_size MOST_LEAF_ROWS (length rows) i
    → part ≡ take size rest → low ≡ cond (length made == 0) 0 (first_low row_key part) → IsLeaf part → IsVacant places id
    → LeavesSoFar rows (i + 1) (with_place places id (Holds (Leaf part))) (drop size rest) (made ++ record { low = low; id = id } ∷ [])
leaves_next rows i places rest part made size low id far less sized is own leaf vacant =
    let done : List (ℕ × List Row) = values zero far.leaves in
    let cut_off = left_next MOST_LEAF_ROWS (length rows) i rest less in
    let as_part : part ≡ take (piece_size MOST_LEAF_ROWS (length rows) i) rest = is ∙ ap (λ k. take k rest) sized in
    let count : length made ≡ length done = sym (ap length far.pieces) ∙ bare_length far.leaves ∙ sym (values_length zero far.leaves) in
    let as_low : next_own row_key done (take (piece_size MOST_LEAF_ROWS (length rows) i) rest) ≡ low =
    ap (λ (k : ℕ). cond (k == 0) 0 (first_low row_key (take (piece_size MOST_LEAF_ROWS (length rows) i) rest))) (sym count)
    ∙ ap (λ (p : List Row). cond (length made == 0) 0 (first_low row_key p)) (sym as_part) ∙ sym own in
    let front = nodes_next row_key (λ part. part) done (take (piece_size MOST_LEAF_ROWS (length rows) i) rest)
    (pieces_left MOST_LEAF_ROWS (length rows) (i + 1) (drop (piece_size MOST_LEAF_ROWS (length rows) i) rest)) (leaves_of 0 rows)
    (ap (λ (parts : List (List Row)). done ++ later_nodes row_key (λ part. part) done parts) (sym cut_off) ∙ far.front) in
    let child : ℕ × List Row = (low, part) in
    let same : ℕ × List Row = (next_own row_key done (take (piece_size MOST_LEAF_ROWS (length rows) i) rest), take (piece_size MOST_LEAF_ROWS (length rows) i) rest) in
    let as_child : same ≡ child = ap (λ (l : ℕ). (l, take (piece_size MOST_LEAF_ROWS (length rows) i) rest)) as_low ∙ ap (λ (p : List Row). (low, p)) (sym as_part) in
    let now : done ++ child ∷ [] ≡ values zero (far.leaves ++ (low, (id, part)) ∷ []) = sym (values_more far.leaves (low, (id, part))) in
    record {
      leaves = far.leaves ++ (low, (id, part)) ∷ [];
      pieces = bare_more far.leaves (low, (id, part)) ∙ ap (λ (ps : List Piece). ps ++ record { low = low; id = id } ∷ []) far.pieces;
      owned = owned_more places far.leaves low id part vacant far.owned;
      front = rw sized (subst (λ (cs : List (ℕ × List Row)). cs ++ later_nodes row_key (λ part. part) cs
          (pieces_left MOST_LEAF_ROWS (length rows) (i + 1) (drop (piece_size MOST_LEAF_ROWS (length rows) i) rest)) ≡ leaves_of 0 rows) (ap (λ (c : ℕ × List Row). done ++ c ∷ []) as_child ∙ now) front);
      cut = rw sized (cut_next MOST_LEAF_ROWS (length rows) i rest less far.cut);
      table = table_drop size rest far.table;
      none_lent = none_lent_after_put places id (Holds (Leaf part)) (λ e. absurd cc) far.none_lent;
      prefixes = λ later. far.prefixes (subst PrefixesHold (take-append-drop size rest)
          (every_append (λ (row : Row). IsPrefix row.prefix) (take size rest) (drop size rest) (subst PrefixesHold is (recursion_from_All (λ (row : Row). IsPrefix row.prefix) part leaf.prefixes)) later));
    }

-- After the last piece all leaves are put.
pub leaves_all : (rows : List Row) (i : ℕ) (places : List Place) (rest : List Row) (made : List Piece) → LeavesSoFar rows i places rest made → piece_count MOST_LEAF_ROWS (length rows) ≤ i
    → AreLeaves rows (map_of places) made
leaves_all rows i places rest made far all =
    let done : List (ℕ × List Row) = values zero far.leaves in
    let none = left_last MOST_LEAF_ROWS (length rows) i rest all in
    record {
      leaves = far.leaves;
      pieces-are = far.pieces;
      values-are = nodes_last row_key (λ part. part) done (leaves_of 0 rows) (ap (λ (parts : List (List Row)). done ++ later_nodes row_key (λ part. part) done parts) (sym none) ∙ far.front);
      owned = far.owned;
    }

pub leaf_table : (rows : List Row) (i : ℕ) (places : List Place) (rest part : List Row) (made : List Piece) (size : ℕ) → LeavesSoFar rows i places rest made
    → part ≡ take size rest → IsTable part
leaf_table rows i places rest part made size far is = rw is (table_take size rest far.table)
