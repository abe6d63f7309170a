-- A node that was made anew is put back: nothing, a removed node, or pieces stand for it.
use Rattle.std.proofs.Common.{◌≡◌, ◌≤◌, ℕ, suc, Bool, true, false, cond, List, [], ◌∷◌, ◌++◌, length, map, drop, refl, sym, ap, ◌∙◌, arith, subst}
use Rattle.std.proofs.lemmas.List.{append-nil}
use Rattle.std.proofs.lemmas.Bool.{ltb-true}
use Rattle.palm_base.specs.Cut.{cut}
use Rattle.palm_base.specs.Pass.{first_low, with_lows, is_small}
use Rattle.palm_base.specs.declared.bounds.TheConstants.{LEAST_CHILDREN, MOST_CHILDREN}
use Rattle.palm_base.proofs.Cuts.{cut_none, few_are_one_piece, pieces_join}
use Rattle.palm_node.specs.InnerNode.{InnerNode, inner_over}
use Rattle.palm_node.specs.declared.id.NodeId.{NodeId}
use Rattle.palm_node.specs.declared.id.Piece.{Piece}
use Rattle.palm_node.specs.declared.node.Node.TheVariants.{Inner}
use Rattle.palm_node.specs.declared.change.Change.{Change}
use Rattle.palm_node.specs.declared.change.Removed.{Removed}
use Rattle.palm_arena.specs.ArenaState.{ArenaState, with_place, IsLent}
use Rattle.palm_arena.specs.declared.place.Place.TheVariants.{Empty, Holds}
use Rattle.palm_arena.specs.Reads.{map_of}
use Rattle.palm_arena.specs.Cells.{Turns}
use Rattle.palm_arena.proofs.Turning.{turns_then}
use Rattle.palm_level.specs.Splices.{children_left}
use Rattle.palm_level.specs.Works.{first_node, later_over}
use Rattle.palm_level.specs.Groups.{Group, nodes_left, cells_at, named_pieces, cells_after}
use Rattle.palm_level.specs.Tasks.{MadeOf, PutsBack, Took, as_node}
use Rattle.palm_level.specs.declared.node_work.LaterNode.{LaterNode}
use Rattle.palm_level.specs.declared.node_work.LevelWork.{LevelWork}
use Rattle.palm_level.proofs.Taking.{given_turns, dropped_turns, turns_more}

-- The group of a work.
abbrev group_of : LevelWork → ℕ → InnerNode → List Change → List (NodeId × ℕ) → List NodeId → Group
group_of work low node changes path ids = record { touched = record { id = work.lease.id; path = path; low = low; changes = changes }; node = node; ids = ids }

nothing_left : (low : ℕ) (left : List Piece) → length left ≡ 0 → (nodes_left low left ≡ []) × (is_small LEAST_CHILDREN left ≡ false) × (cut MOST_CHILDREN left ≡ [])
nothing_left low [] none = let e = cut_none {X = Piece} MOST_CHILDREN (omega arith) in (rw e refl, refl, e)
nothing_left low (x ∷ xs) none = absurd (omega (arith, none))

few_left : (low : ℕ) (left : List Piece) → is_small LEAST_CHILDREN left ≡ true → (nodes_left low left ≡ []) × (cut MOST_CHILDREN left ≡ left ∷ [])
few_left low [] small = absurd cc
few_left low (x ∷ xs) small =
    let few = ltb-true (length (x ∷ xs)) LEAST_CHILDREN small in
    (rw small refl, few_are_one_piece MOST_CHILDREN (x ∷ xs) (omega arith) (omega (arith, few)))

-- Some are left, and not few: there is a first part.
record FirstPart (low : ℕ) (left : List Piece) : Type 0 where
  part : List Piece
  parts : List (List Piece)
  is : cut MOST_CHILDREN left ≡ part ∷ parts
  nodes : nodes_left low left ≡ (low, inner_over part) ∷ map (λ later. (first_low (λ piece. piece.low) later, inner_over later)) parts

first_part_of : (low : ℕ) (left : List Piece) → 1 ≤ length left → is_small LEAST_CHILDREN left ≡ false → FirstPart low left
first_part_of low left some large = by (cut MOST_CHILDREN left) refl
  where
    by : (parts : List (List Piece)) → cut MOST_CHILDREN left ≡ parts → FirstPart low left
    by [] e =
        let whole = pieces_join MOST_CHILDREN left (omega arith) in
        let none : [] ≡ left = rw e at whole in
        let n = ap length none in
        absurd (omega (arith, n, some))
    by (part ∷ parts) e = record {
      part = part;
      parts = parts;
      is = e;
      nodes = ap (λ b. cond b [] (with_lows (λ (piece : Piece). piece.low) inner_over low (cut MOST_CHILDREN left))) large ∙ ap (with_lows (λ (piece : Piece). piece.low) inner_over low) e;
    }

later_nodes : (parts : List (List Piece)) → map as_node (map later_over parts) ≡ map {B = ℕ × InnerNode} (λ later. (first_low (λ (piece : Piece). piece.low) later, inner_over later)) parts
later_nodes [] = refl
later_nodes (p ∷ ps) = ap (λ (ns : List (ℕ × InnerNode)). (first_low (λ (piece : Piece). piece.low) p, inner_over p) ∷ ns) (later_nodes ps)

-- No child is left: the node is dropped.
pub back_none : (level low : ℕ) (work : LevelWork) (a b c : ArenaState) (removed : List Removed) (pieces : List Piece) (node : InnerNode) (changes : List Change) (path : List (NodeId × ℕ))
    → MadeOf node changes work → length work.children.items ≡ 0 → IsLent a.places work.lease.id
    → b ≡ record a { places = with_place a.places work.lease.id (Holds work.lease.node) } → c ≡ record b { places = with_place b.places work.lease.id Empty } → pieces ≡ []
    → (ids : List NodeId) × PutsBack level (group_of work low node changes path ids) a c removed removed pieces
back_none level low work a b c removed pieces node changes path made none lent given dropped nil =
    let left = nothing_left low (children_left node changes) (ap length (sym made.children) ∙ none) in
    let cells : cells_after (group_of work low node changes path []) ≡ [] = ap (λ s. cond s ((work.lease.id, Inner (inner_over (children_left node changes))) ∷ []) []) left.1 in (
      [],
      record {
        many = sym (ap length left.0);
        turns = subst (Turns (map_of a.places) (map_of c.places) []) (sym cells)
            (turns_then (map_of a.places) (map_of b.places) (map_of c.places) [] ((work.lease.id, work.lease.node) ∷ []) [] (given_turns a b work.lease.id work.lease.node lent given) (dropped_turns b c work.lease.id work.lease.node dropped));
        pieces-are = nil;
        removed = sym (append-nil removed) ∙ ap (λ (s : Bool). removed ++ cond s (record { level = level; id = work.lease.id } ∷ []) []) (sym left.1);
      },
    )

-- Few children are left: the node stays with them, to be removed.
pub back_few : (level low : ℕ) (work : LevelWork) (a b : ArenaState) (removed after : List Removed) (pieces : List Piece) (node : InnerNode) (changes : List Change) (path : List (NodeId × ℕ))
    → MadeOf node changes work → is_small LEAST_CHILDREN work.children.items ≡ true → IsLent a.places work.lease.id
    → b ≡ record a { places = with_place a.places work.lease.id (Holds work.lease.node) } → after ≡ removed ++ record { level = level; id = work.lease.id } ∷ [] → pieces ≡ []
    → (ids : List NodeId) × PutsBack level (group_of work low node changes path ids) a b removed after pieces
back_few level low work a b removed after pieces node changes path made small lent given more nil =
    let is : is_small LEAST_CHILDREN (children_left node changes) ≡ true = ap (is_small LEAST_CHILDREN) (sym made.children) ∙ small in
    let left = few_left low (children_left node changes) is in
    let own : work.lease.node ≡ Inner (inner_over (children_left node changes)) = made.own ∙ ap (λ ps. Inner (first_node node ps)) left.1 in
    let cells : cells_after (group_of work low node changes path []) ≡ (work.lease.id, work.lease.node) ∷ [] =
    ap (λ s. cond s ((work.lease.id, Inner (inner_over (children_left node changes))) ∷ []) []) is ∙ ap (λ (n : _). (work.lease.id, n) ∷ []) (sym own) in (
      [],
      record {
        many = sym (ap length left.0);
        turns = subst (Turns (map_of a.places) (map_of b.places) []) (sym cells) (given_turns a b work.lease.id work.lease.node lent given);
        pieces-are = nil;
        removed = more ∙ ap (λ (s : Bool). removed ++ cond s (record { level = level; id = work.lease.id } ∷ []) []) (sym is);
      },
    )

-- Enough children are left: the first part keeps the id, and the later ones take new ones.
pub back_many : (level low : ℕ) (work : LevelWork) (a b c : ArenaState) (removed : List Removed) (first pieces : List Piece) (node : InnerNode) (changes : List Change) (path : List (NodeId × ℕ))
    → MadeOf node changes work → 1 ≤ length work.children.items → is_small LEAST_CHILDREN work.children.items ≡ false → IsLent a.places work.lease.id
    → b ≡ record a { places = with_place a.places work.lease.id (Holds work.lease.node) } → first ≡ record { low = low; id = work.lease.id } ∷ [] → Took b c first pieces work.later.items
    → (ids : List NodeId) × PutsBack level (group_of work low node changes path ids) a c removed removed pieces
back_many level low work a b c removed first pieces node changes path made some large lent given one took =
    let left = children_left node changes in
    let is : is_small LEAST_CHILDREN left ≡ false = ap (is_small LEAST_CHILDREN) (sym made.children) ∙ large in
    let part = first_part_of low left (subst (λ (l : List Piece). 1 ≤ length l) made.children some) is in
    let own : work.lease.node ≡ Inner (inner_over part.part) = made.own ∙ ap (λ ps. Inner (first_node node ps)) part.is in
    let later : work.later.items ≡ map later_over part.parts = made.later ∙ ap (λ ps. map later_over (drop 1 ps)) part.is in
    let rest : map as_node work.later.items ≡ map (λ later. (first_low (λ piece. piece.low) later, inner_over later)) part.parts = ap (map as_node) later ∙ later_nodes part.parts in
    let nodes : nodes_left low left ≡ (low, inner_over part.part) ∷ map as_node work.later.items = part.nodes ∙ ap (λ (ns : List (ℕ × InnerNode)). (low, inner_over part.part) ∷ ns) (sym rest) in
    let ids = work.lease.id ∷ took.ids in
    let cells : cells_after (group_of work low node changes path ids) ≡ (work.lease.id, work.lease.node) ∷ cells_at took.ids (map as_node work.later.items) =
    ap (λ s. cells_at ids (nodes_left low left) ++ cond s ((work.lease.id, Inner (inner_over left)) ∷ []) []) is
    ∙ append-nil (cells_at ids (nodes_left low left)) ∙ ap (cells_at ids) nodes ∙ ap (λ n. (work.lease.id, n) ∷ cells_at took.ids (map as_node work.later.items)) (sym own) in
    let counted : length took.ids ≡ length (map as_node work.later.items) = took.many ∙ sym (length_as_nodes work.later.items) in (
      ids,
      record {
        many = ap suc counted ∙ sym (ap length nodes);
        turns = subst (Turns (map_of a.places) (map_of c.places) []) (sym cells)
            (turns_more (map_of a.places) (map_of b.places) (map_of c.places) ((work.lease.id, work.lease.node) ∷ []) (cells_at took.ids (map as_node work.later.items)) (given_turns a b work.lease.id work.lease.node lent given) took.turns);
        pieces-are = took.pieces ∙ ap (λ ps. ps ++ named_pieces took.ids (map as_node work.later.items)) one ∙ ap (named_pieces ids) (sym nodes);
        removed = sym (append-nil removed) ∙ ap (λ (s : Bool). removed ++ cond s (record { level = level; id = work.lease.id } ∷ []) []) (sym is);
      },
    )
  where
    length_as_nodes : (later : List LaterNode) → length (map as_node later) ≡ length later
    length_as_nodes [] = refl
    length_as_nodes (p ∷ ps) = ap suc (length_as_nodes ps)
