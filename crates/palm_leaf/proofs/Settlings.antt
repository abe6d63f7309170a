-- A leaf's later pieces are taken into the arena, and a leaf that isn't kept is dropped.
use Rattle.std.proofs.Common.{◌≡◌, ℕ, suc, ◌+◌, List, [], ◌∷◌, ◌++◌, length, map, refl, sym, ap, ◌∙◌, append_assoc, subst, arith, length-append}
use Rattle.std.specs.Prelude.{Option}
use Rattle.std.proofs.lemmas.List.{append-nil}
use mathlib.Core.List.{map-append}
use Rattle.palm_base.specs.declared.row.Row.{Row}
use Rattle.palm_node.specs.declared.id.NodeId.{NodeId}
use Rattle.palm_node.specs.declared.id.Piece.{Piece}
use Rattle.palm_node.specs.declared.node.Node.{Node}
use Rattle.palm_node.specs.declared.node.Node.TheVariants.{Leaf}
use Rattle.palm_arena.specs.declared.place.Place.{Place}
use Rattle.palm_arena.specs.declared.place.Place.TheVariants.{Empty, Holds}
use Rattle.palm_arena.specs.ArenaState.{with_place, IsVacant, NoneLent}
use Rattle.palm_arena.specs.Cells.{Cell, Turns}
use Rattle.palm_arena.specs.Reads.{map_of}
use Rattle.palm_arena.proofs.CellLists.{same_swap}
use Rattle.palm_arena.proofs.Natural.{length-map'}
use Rattle.palm_arena.proofs.Standing.{none_lent_after_put}
use Rattle.palm_arena.proofs.Turning.{put_turns, drop_turns, vacant_none, turns_then, turns_before, turns_same}
use Rattle.palm_leaf.specs.Answers.{rows_at}
use Rattle.palm_leaf.specs.Ends.{pieces_at, leaf_cells, leaf_cell}
use Rattle.palm_leaf.specs.Settling.{AreTaken, EndsAs}
use Rattle.palm_leaf.specs.Worked.{low_and_rows}
use Rattle.palm_leaf.specs.declared.leaf_work.NewLeaf.{NewLeaf}
use Rattle.palm_leaf.specs.declared.settling.Gathered.{Gathered}

pub none_lent_put : (places : List Place) (id : NodeId) (node : Node) → NoneLent places → NoneLent (with_place places id (Holds node))
none_lent_put places id node = none_lent_after_put places id (Holds node) (λ e. absurd cc)

pub none_lent_dropped : (places : List Place) (id : NodeId) → NoneLent places → NoneLent (with_place places id Empty)
none_lent_dropped places id = none_lent_after_put places id Empty (λ e. absurd cc)

pieces_more : (ids : List NodeId) (leaves : List (ℕ × List Row)) (id : NodeId) (leaf : ℕ × List Row) → length ids ≡ length leaves → pieces_at (ids ++ id ∷ []) (leaves ++ leaf ∷ []) ≡ pieces_at ids leaves ++ record { low = leaf.0; id = id } ∷ []
pieces_more [] [] id leaf many = refl
pieces_more [] (l ∷ leaves) id leaf many = absurd (omega arith)
pieces_more (i ∷ ids) [] id leaf many = absurd (omega arith)
pieces_more (i ∷ ids) (l ∷ leaves) id leaf many = ap (λ (ps : List Piece). record { low = l.0; id = i } ∷ ps) (pieces_more ids leaves id leaf (omega arith))

cells_more : (ids : List NodeId) (leaves : List (ℕ × List Row)) (id : NodeId) (leaf : ℕ × List Row) → length ids ≡ length leaves → leaf_cells (ids ++ id ∷ []) (leaves ++ leaf ∷ []) ≡ leaf_cells ids leaves ++ (id, Leaf leaf.1) ∷ []
cells_more [] [] id leaf many = refl
cells_more [] (l ∷ leaves) id leaf many = absurd (omega arith)
cells_more (i ∷ ids) [] id leaf many = absurd (omega arith)
cells_more (i ∷ ids) (l ∷ leaves) id leaf many = ap (λ (cs : List Cell). (i, Leaf l.1) ∷ cs) (cells_more ids leaves id leaf (omega arith))

-- One leaf more is taken.
pub one_taken : (start places next : List Place) (before pieces more : List Piece) (made : List NewLeaf) (leaf : NewLeaf) (id : NodeId) → AreTaken (map_of start) (map_of places) before pieces made → IsVacant places id
    → next ≡ with_place places id (Holds (Leaf leaf.leaf)) → more ≡ pieces ++ record { low = leaf.low; id = id } ∷ [] → AreTaken (map_of start) (map_of next) before more (made ++ leaf ∷ [])
one_taken start places next before pieces more made leaf id taken vacant put pushed =
    let leaves = map low_and_rows made in
    let after = map_of (with_place places id (Holds (Leaf leaf.leaf))) in
    let cells = leaf_cells taken.ids leaves in
    let many : length taken.ids ≡ length leaves = taken.many ∙ sym (length-map' low_and_rows made) in
    let whole = map-append low_and_rows made (leaf ∷ []) in
    rw (put, pushed) record {
      ids = taken.ids ++ id ∷ [];
      many = length-append taken.ids (id ∷ []) ∙ ap (λ n. n + 1) taken.many ∙ sym (length-append made (leaf ∷ []));
      pieces-are =
          ap (λ (ps : List Piece). ps ++ record { low = leaf.low; id = id } ∷ []) taken.pieces-are ∙ append_assoc before (pieces_at taken.ids leaves) (record { low = leaf.low; id = id } ∷ [])
          ∙ ap (λ (ps : List Piece). before ++ ps) (sym (pieces_more taken.ids leaves id (leaf.low, leaf.leaf) many) ∙ ap (pieces_at (taken.ids ++ id ∷ [])) (sym whole));
      turned =
          subst (λ (cs : List Cell). Turns (map_of start) after [] cs) (sym (cells_more taken.ids leaves id (leaf.low, leaf.leaf) many) ∙ ap (leaf_cells (taken.ids ++ id ∷ [])) (sym whole))
          (turns_then (map_of start) (map_of places) after [] cells (cells ++ (id, Leaf leaf.leaf) ∷ []) taken.turned
          (turns_same (map_of places) after cells cells ((id, Leaf leaf.leaf) ∷ cells) (cells ++ (id, Leaf leaf.leaf) ∷ []) (λ i. refl) (same_swap ((id, Leaf leaf.leaf) ∷ []) cells)
          (turns_before (map_of places) after [] ((id, Leaf leaf.leaf) ∷ []) cells (put_turns places id (Leaf leaf.leaf) (vacant_none places id vacant)))));
    }

-- A leaf that is kept.
pub kept_ends : (old new : NodeId → Option Node) (first : Piece) (path : List (NodeId × ℕ)) (later : List NewLeaf) (pieces : List Piece) (before after : Gathered) → AreTaken old new (first ∷ []) pieces later
    → after.nodes ≡ before.nodes ++ record { node = first.id; path = path; pieces = pieces } ∷ [] → after.loose ≡ before.loose → after.answers ≡ before.answers
    → EndsAs old new (record { node = first.id; path = path; outcome = record { pieces = (first.low, rows_at old first.id) ∷ map low_and_rows later; loose = [] } }) before after
kept_ends old new first path later pieces before after taken nodes loose answers =
    let cell = leaf_cell old first.id in
    let cells = leaf_cells taken.ids (map low_and_rows later) in
    record {
      ids = first.id ∷ taken.ids;
      many = ap suc (taken.many ∙ sym (length-map' low_and_rows later));
      nodes-are = nodes ∙ ap (λ (ps : List Piece). before.nodes ++ record { node = first.id; path = path; pieces = ps } ∷ []) taken.pieces-are;
      loose-are = ap (λ (v : _). v.items) loose ∙ sym (append-nil before.loose.items);
      answers-are = answers;
      turned =
          turns_same old new (cell ∷ []) (cell ∷ []) (cells ++ cell ∷ []) (cell ∷ cells) (λ i. refl) (same_swap cells (cell ∷ []))
          (turns_before old new [] cells (cell ∷ []) taken.turned);
    }

-- A leaf that isn't kept.
pub removed_ends : (places next : List Place) (id : NodeId) (path : List (NodeId × ℕ)) (rows : List Row) (before after : Gathered) → next ≡ with_place places id Empty
    → after.nodes ≡ before.nodes ++ record { node = id; path = path; pieces = [] } ∷ [] → after.loose.items ≡ before.loose.items ++ rows → after.answers ≡ before.answers
    → EndsAs (map_of places) (map_of next) (record { node = id; path = path; outcome = record { pieces = []; loose = rows } }) before after
removed_ends places next id path rows before after dropped nodes loose answers = rw dropped record {
  ids = [];
  many = refl;
  nodes-are = nodes;
  loose-are = loose;
  answers-are = answers;
  turned = drop_turns places id (Leaf (rows_at (map_of places) id));
}
