-- The nodes over the pieces of a level, put into an arena one after another.
use Rattle.std.proofs.Common.{◌≡◌, ℕ, suc, ◌+◌, ◌<◌, ◌≤◌, cond, List, [], ◌∷◌, ◌++◌, length, map, take, drop, get_or, Option, refl, sym, ap, subst, arith, ◌∙◌, append_assoc}
use Rattle.std.specs.Prelude.{◌==◌}
use Rattle.std.specs.List.Sorted.{IsStrictlyIncreasing}
use Rattle.palm_base.specs.Cut.{piece_count, piece_size}
use Rattle.palm_base.specs.Pass.{first_low, with_lows, node_over}
use Rattle.palm_base.specs.Lawful.{HasFromTo}
use Rattle.palm_base.specs.declared.bounds.TheConstants.{MOST_CHILDREN, LEAST_CHILDREN}
use Rattle.palm_base.proofs.SoundNodes.{low_of}
use Rattle.palm_base.proofs.CutSteps.{pieces_left, IsCutTo, left_first, left_next, left_last, cut_first, cut_next, next_fits, later_nodes, next_own, nodes_next, nodes_last}
use Rattle.palm_node.specs.InnerNode.{InnerNode, Rise, later_lows, inner_over}
use Rattle.palm_node.specs.declared.id.NodeId.{NodeId}
use Rattle.palm_node.specs.declared.id.Piece.{Piece}
use Rattle.palm_node.specs.declared.node.Node.{Node}
use Rattle.palm_node.specs.declared.node.Node.TheVariants.{Inner}
use Rattle.palm_node.proofs.RisingLows.{rise_increasing, later_take, later_drop}
use Rattle.palm_arena.specs.Cells.{Cell, Owns, Turns, found_at}
use Rattle.palm_arena.proofs.CellLists.{owned_same, same_pass}
use Rattle.palm_arena.specs.ArenaState.{ArenaState, with_place, IsVacant, NoneLent}
use Rattle.palm_arena.specs.Reads.{map_of}
use Rattle.palm_arena.specs.declared.place.Place.TheVariants.{Holds}
use Rattle.palm_arena.proofs.Turning.{put_turns, vacant_none}
use Rattle.palm_arena.proofs.Standing.{none_lent_after_put}
use Rattle.palm_arena.specs.Routes.{separators_of}
use Rattle.palm_arena.proofs.Natural.{take-map, drop-map, length-map'}
use Rattle.palm_arena.specs.Levels.{pair_of, nodes_of, pieces_of, cells_at, IsTaken}

-- The nodes over the pieces before the i-th are put, and the rest of the level is left.
pub record TakenSoFar (level : List Piece) (old : NodeId → Option Node) (i : ℕ) (new : NodeId → Option Node) (rest made : List Piece) : Type 0 where
  pub cut : IsCutTo MOST_CHILDREN (length level) i rest
  pub rising : Rise (later_lows rest)
  pub ids : List NodeId
  pub nodes : List (ℕ × List (ℕ × NodeId))
  pub many : length ids ≡ length nodes
  pub pieces : made ≡ pieces_of ids nodes
  pub turns : Turns old new [] (cells_at ids nodes)
  pub front : nodes ++ later_nodes low_of node_over nodes (pieces_left MOST_CHILDREN (length level) i (map pair_of rest)) ≡ nodes_of level

pub taken_first : (level : List Piece) (old : NodeId → Option Node) (made : List Piece) → Rise (later_lows level) → made ≡ [] → TakenSoFar level old 0 old level made
taken_first level old made rising none = rw none (record {
  cut = cut_first LEAST_CHILDREN level (omega arith);
  rising = rising;
  ids = [];
  nodes = [];
  many = refl;
  pieces = refl;
  turns = λ others owned. owned;
  front = ap (λ (t : ℕ). with_lows low_of node_over 0 (pieces_left MOST_CHILDREN t 0 (map pair_of level))) (sym (length-map' pair_of level)) ∙ ap (with_lows low_of node_over 0) (left_first MOST_CHILDREN (map pair_of level));
})

pieces_append : (ids : List NodeId) (nodes : List (ℕ × List (ℕ × NodeId))) (id : NodeId) (node : ℕ × List (ℕ × NodeId)) → length ids ≡ length nodes → pieces_of (ids ++ id ∷ []) (nodes ++ node ∷ []) ≡ pieces_of ids nodes ++ record { low = node.0; id = id } ∷ []
pieces_append [] [] id node e = refl
pieces_append [] (n ∷ ns) id node e = absurd (omega arith)
pieces_append (i ∷ is) [] id node e = absurd (omega arith)
pieces_append (i ∷ is) (n ∷ ns) id node e = ap (λ (ps : List Piece). record { low = n.0; id = i } ∷ ps) (pieces_append is ns id node (omega arith))

-- The cell of a node under an id.
abbrev cell_at : NodeId → List (ℕ × NodeId) → Cell
cell_at id children = (id, Inner (record { children = map (λ child. child.1) children; separators = separators_of children }))

cells_append : (ids : List NodeId) (nodes : List (ℕ × List (ℕ × NodeId))) (id : NodeId) (node : ℕ × List (ℕ × NodeId)) → length ids ≡ length nodes → cells_at (ids ++ id ∷ []) (nodes ++ node ∷ []) ≡ cells_at ids nodes ++ cell_at id node.1 ∷ []
cells_append [] [] id node e = refl
cells_append [] (n ∷ ns) id node e = absurd (omega arith)
cells_append (i ∷ is) [] id node e = absurd (omega arith)
cells_append (i ∷ is) (n ∷ ns) id node e = ap (λ cs. cell_at i n.1 ∷ cs) (cells_append is ns id node (omega arith))

pub length-more : {X : Type 0} (xs : List X) (x : X) → length (xs ++ x ∷ []) ≡ suc (length xs)
length-more [] x = refl
length-more (y ∷ ys) x = ap suc (length-more ys x)

length_pieces : (ids : List NodeId) (nodes : List (ℕ × List (ℕ × NodeId))) → length ids ≡ length nodes → length (pieces_of ids nodes) ≡ length nodes
length_pieces [] [] e = refl
length_pieces [] (n ∷ ns) e = absurd (omega arith)
length_pieces (i ∷ is) [] e = absurd (omega arith)
length_pieces (i ∷ is) (n ∷ ns) e = ap suc (length_pieces is ns (omega arith))

-- The node over pieces is the one over their lows and ids.
over_pairs : (pieces : List Piece) → inner_over pieces ≡ record { children = map (λ child. child.1) (node_over (map pair_of pieces)); separators = separators_of (node_over (map pair_of pieces)) }
over_pairs [] = refl
over_pairs (piece ∷ pieces) = ap (λ (ids : List NodeId). let n : InnerNode = record { children = piece.id ∷ ids; separators = later_lows (piece ∷ pieces) } in n) (ids pieces) ∙ ap (λ (lows : List ℕ). let n : InnerNode = record { children = piece.id ∷ map (λ child. child.1) (map pair_of pieces); separators = lows } in n) (lows pieces)
  where
    ids : (pieces : List Piece) → map (λ (p : Piece). p.id) pieces ≡ map (λ (child : ℕ × NodeId). child.1) (map pair_of pieces)
    ids [] = refl
    ids (p ∷ ps) = ap (λ is. p.id ∷ is) (ids ps)

    lows : (pieces : List Piece) → map (λ (p : Piece). p.low) pieces ≡ map (λ (child : ℕ × NodeId). child.0) (map pair_of pieces)
    lows [] = refl
    lows (p ∷ ps) = ap (λ is. p.low ∷ is) (lows ps)

first_pair : (pieces : List Piece) → first_low (λ (piece : Piece). piece.low) pieces ≡ first_low low_of (map pair_of pieces)
first_pair [] = refl
first_pair (piece ∷ pieces) = refl

-- The next piece has the parts of an inner node.
pub level_parts : (level : List Piece) (old : NodeId → Option Node) (i : ℕ) (new : NodeId → Option Node) (rest made part : List Piece) (size : ℕ) → TakenSoFar level old i new rest made
    → i < piece_count MOST_CHILDREN (length level) → size ≡ piece_size MOST_CHILDREN (length level) i → part ≡ take size rest
    → HasFromTo 1 MOST_CHILDREN part × IsStrictlyIncreasing (later_lows part)
level_parts level old i new rest made part size far less sized is =
    let fits : HasFromTo 1 MOST_CHILDREN part = rw (is, sized) (next_fits MOST_CHILDREN (length level) i rest less far.cut).1 in
    (fits, rw is (rise_increasing (later_lows (take size rest)) (later_take size rest far.rising)))

-- The low of the first of pieces.
pub first_low_is : (pieces : List Piece) (d : Piece) → 1 ≤ length pieces → (get_or pieces 0 d).low ≡ first_low (λ piece. piece.low) pieces
first_low_is [] d some = absurd (omega arith)
first_low_is (piece ∷ pieces) d some = refl

-- One node more, over the next piece.
pub taken_next : (level : List Piece) (old : NodeId → Option Node) (i : ℕ) (new later : NodeId → Option Node) (rest made part : List Piece) (size low : ℕ) (id : NodeId) → TakenSoFar level old i new rest made
    → i < piece_count MOST_CHILDREN (length level) → size ≡ piece_size MOST_CHILDREN (length level) i → part ≡ take size rest
    → low ≡ cond (length made == 0) 0 (first_low (λ (piece : Piece). piece.low) part)
    → Turns new later [] ((id, Inner (inner_over part)) ∷ [])
    → TakenSoFar level old (i + 1) later (drop size rest) (made ++ record { low = low; id = id } ∷ [])
taken_next level old i new later rest made part size low id far less sized is own turns = record {
  cut = rw sized (cut_next MOST_CHILDREN (length level) i rest less far.cut);
  rising = later_drop size rest far.rising;
  ids = far.ids ++ id ∷ [];
  nodes = far.nodes ++ node ∷ [];
  many = length-more far.ids id ∙ ap suc far.many ∙ sym (length-more far.nodes node);
  pieces = ap (λ ps. ps ++ record { low = low; id = id } ∷ []) far.pieces ∙ sym (pieces_append far.ids far.nodes id node far.many);
  turns = λ others owned. subst (λ cs. Owns later (cs ++ others)) (sym (cells_append far.ids far.nodes id node far.many))
      (owned_same later (cell_at id node.1 ∷ (cells_at far.ids far.nodes ++ others)) ((cells_at far.ids far.nodes ++ cell_at id node.1 ∷ []) ++ others)
      (subst (λ (n : InnerNode). Owns later ((id, Inner n) ∷ (cells_at far.ids far.nodes ++ others))) over_part (turns (cells_at far.ids far.nodes ++ others) (far.turns others owned)))
      (λ k. same_pass (cell_at id node.1 ∷ []) (cells_at far.ids far.nodes) others k ∙ ap (found_at k) (sym (append_assoc (cells_at far.ids far.nodes) (cell_at id node.1 ∷ []) others))));
  front = subst (λ (l : ℕ). (far.nodes ++ (l, node_over pairs) ∷ []) ++ later_nodes low_of node_over (far.nodes ++ (l, node_over pairs) ∷ []) parts ≡ nodes_of level) as_low front
      ∙ refl;
}
  where
    pairs : List (ℕ × NodeId)
    pairs = take size (map pair_of rest)

    node : ℕ × List (ℕ × NodeId)
    node = (low, node_over pairs)

    parts : List (List (ℕ × NodeId))
    parts = pieces_left MOST_CHILDREN (length level) (i + 1) (map pair_of (drop size rest))

    pairs_are : pairs ≡ map pair_of part
    pairs_are = take-map pair_of size rest ∙ ap (map pair_of) (sym is)

    over_part : inner_over part ≡ record { children = map (λ child. child.1) (node_over pairs); separators = separators_of (node_over pairs) }
    over_part = over_pairs part ∙ ap (λ (ps : List (ℕ × NodeId)). let n : InnerNode = record { children = map (λ child. child.1) (node_over ps); separators = separators_of (node_over ps) } in n) (sym pairs_are)

    cut_off : pieces_left MOST_CHILDREN (length level) i (map pair_of rest) ≡ pairs ∷ parts
    cut_off = rw sized (left_next MOST_CHILDREN (length level) i (map pair_of rest) less ∙ ap (λ (ps : List (ℕ × NodeId)). take (piece_size MOST_CHILDREN (length level) i) (map pair_of rest) ∷ pieces_left MOST_CHILDREN (length level) (i + 1) ps) (drop-map pair_of (piece_size MOST_CHILDREN (length level) i) rest))

    front : (far.nodes ++ (next_own low_of far.nodes pairs, node_over pairs) ∷ []) ++ later_nodes low_of node_over (far.nodes ++ (next_own low_of far.nodes pairs, node_over pairs) ∷ []) parts ≡ nodes_of level
    front = nodes_next low_of node_over far.nodes pairs parts (nodes_of level) (ap (λ (ps : List (List (ℕ × NodeId))). far.nodes ++ later_nodes low_of node_over far.nodes ps) (sym cut_off) ∙ far.front)

    as_low : next_own low_of far.nodes pairs ≡ low
    as_low =
        ap (λ (k : ℕ). cond (k == 0) 0 (first_low low_of pairs)) (sym (ap length far.pieces ∙ length_pieces far.ids far.nodes far.many))
        ∙ ap (λ (ps : List (ℕ × NodeId)). cond (length made == 0) 0 (first_low low_of ps)) pairs_are
        ∙ ap (λ (k : ℕ). cond (length made == 0) 0 k) (sym (first_pair part))
        ∙ sym own

-- After the last piece all nodes are put.
pub taken_all : (level : List Piece) (old : NodeId → Option Node) (i : ℕ) (new : NodeId → Option Node) (rest made : List Piece) → TakenSoFar level old i new rest made → piece_count MOST_CHILDREN (length level) ≤ i → IsTaken level made old new
taken_all level old i new rest made far all =
    let none = left_last MOST_CHILDREN (length level) i (map pair_of rest) all in
    let same : far.nodes ≡ nodes_of level = nodes_last low_of node_over far.nodes (nodes_of level) (ap (λ (parts : List (List (ℕ × NodeId))). far.nodes ++ later_nodes low_of node_over far.nodes parts) (sym none) ∙ far.front) in
    record {
      ids = far.ids;
      many = far.many ∙ ap length same;
      pieces = far.pieces ∙ ap (pieces_of far.ids) same;
      turns = subst (λ nodes. Turns old new [] (cells_at far.ids nodes)) same far.turns;
    }

-- ---- what taking a node does

pub taken_turns : (old new : ArenaState) (id : NodeId) (node : Node) → new ≡ record old { places = with_place old.places id (Holds node); moved = old.moved ++ id ∷ [] } → IsVacant old.places id → Turns (map_of old.places) (map_of new.places) [] ((id, node) ∷ [])
taken_turns old new id node e vacant = subst (λ (a : ArenaState). Turns (map_of old.places) (map_of a.places) [] ((id, node) ∷ [])) (sym e) (put_turns old.places id node (vacant_none old.places id vacant))

pub taken_home : (old new : ArenaState) (id : NodeId) (node : Node) → new ≡ record old { places = with_place old.places id (Holds node); moved = old.moved ++ id ∷ [] } → NoneLent old.places → NoneLent new.places
taken_home old new id node e home = subst (λ (a : ArenaState). NoneLent a.places) (sym e) (none_lent_after_put old.places id (Holds node) (λ e. absurd cc) home)
