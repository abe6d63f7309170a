-- A level, and the one above it, up to the root.
use Rattle.std.proofs.Common.{◌≡◌, ℕ, suc, ◌+◌, ◌*◌, ◌^◌, ◌<◌, ◌≤◌, List, [], ◌∷◌, ◌++◌, length, map, drop, get_or, Option, Some, refl, sym, ap, subst, arith, ◌∙◌, append_assoc, ◌⊎◌, inl, inr}
use Rattle.std.specs.Prelude.{slice_get}
use Rattle.std.proofs.lemmas.List.{append-nil}
use Rattle.std.proofs.Math.Nat.{mul-le-mul_left}
use Rattle.std.proofs.Math.Pow.{pow_mono}
use Rattle.palm_base.specs.declared.bounds.TheConstants.{MOST_LEVELS}
use Rattle.palm_base.specs.Cut.{piece_count}
use Rattle.palm_base.specs.Tree.{Subtree, Tree}
use Rattle.palm_base.specs.Lawful.{IsOrderly}
use Rattle.palm_base.specs.Pass.{nodes_over, top}
use Rattle.palm_base.specs.declared.bounds.TheConstants.{MOST_CHILDREN}
use Rattle.palm_base.specs.Cut.{cut}
use Rattle.palm_base.specs.Pass.{node_over}
use Rattle.palm_base.proofs.Cuts.{pieces_are_counted}
use Rattle.palm_base.proofs.SoundNodes.{low_of, length_with_lows}
use Rattle.palm_node.specs.InnerNode.{Rise, later_lows}
use Rattle.palm_node.specs.declared.id.NodeId.{NodeId}
use Rattle.palm_node.specs.declared.id.Piece.{Piece}
use Rattle.palm_node.specs.declared.node.Node.{Node}
use Rattle.palm_node.specs.declared.node.Node.TheVariants.{Inner}
use Rattle.palm_node.proofs.TopLevels.{half_as_many, nodes_orderly, top_alone, top_next, lows_rise, more_levels, few_levels}
use Rattle.palm_arena.specs.declared.shape.Shape.{Shape}
use Rattle.palm_arena.specs.Cells.{Cell, Owns}
use Rattle.palm_arena.specs.Placed.{Body, Placed, value_in, values, cells_of, cells_under, bare, ids_of_children, with_ids, own_cells}
use Rattle.palm_arena.specs.Routes.{separators_of}
use Rattle.palm_arena.specs.Passes.{StandsAlone}
use Rattle.palm_arena.proofs.CellLists.{owned_same, same_append}
use Rattle.palm_arena.proofs.Natural.{inside, drop-map, length-map'}
use Rattle.palm_arena.proofs.NamedNodes.{ids_values, nodes-inside, nodes_values, nodes_cells}
use Rattle.palm_arena.specs.Levels.{pair_of, nodes_of, pieces_of, cells_at, IsTaken, IsLevel, HasRaised}

-- ---- nodes by ids, and by all that is under them

id_of : {B : Type 0} → NodeId × B → NodeId
id_of p = p.0

bare_pairs : {B : Type 0} (children : List (ℕ × (NodeId × B))) → map pair_of (bare children) ≡ map (inside id_of) children
unfolding id_of
bare_pairs [] = refl
bare_pairs (c ∷ cs) = ap (λ l. (c.0, c.1.0) ∷ l) (bare_pairs cs)

nodes_bare : (n : ℕ) (children : List (ℕ × Placed n)) → nodes_of (bare children) ≡ map (inside (map (inside id_of))) (nodes_over 0 children)
nodes_bare n children = ap (nodes_over 0) (bare_pairs children) ∙ sym (nodes-inside id_of 0 children)

pieces_bare : (n : ℕ) (ids : List NodeId) (nodes : List (ℕ × Body (suc n))) → pieces_of ids (map {B = ℕ × List (ℕ × NodeId)} (inside (map (inside id_of))) nodes) ≡ bare (with_ids ids nodes)
pieces_bare n [] nodes = refl
pieces_bare n (id ∷ ids) [] = refl
pieces_bare n (id ∷ ids) (p ∷ ps) = ap (λ (l : List Piece). record { low = p.0; id = id } ∷ l) (pieces_bare n ids ps)

seconds : {B : Type 0} (children : List (ℕ × (NodeId × B))) → map (λ (child : ℕ × NodeId). child.1) (map (inside id_of) children) ≡ ids_of_children children
unfolding id_of
seconds [] = refl
seconds (c ∷ cs) = ap (λ l. c.1.0 ∷ l) (seconds cs)

firsts : {B : Type 0} (children : List (ℕ × (NodeId × B))) → separators_of (map (inside id_of) children) ≡ separators_of children
firsts children = ap (map (λ (child : ℕ × NodeId). child.0)) (drop-map (inside id_of) 1 children) ∙ lows (drop 1 children)
  where
    lows : {B : Type 0} (children : List (ℕ × (NodeId × B))) → map (λ (child : ℕ × NodeId). child.0) (map (inside id_of) children) ≡ map (λ child. child.0) children
    lows [] = refl
    lows (c ∷ cs) = ap (λ l. c.0 ∷ l) (lows cs)

cells_bare : (n : ℕ) (ids : List NodeId) (nodes : List (ℕ × Body (suc n))) → cells_at ids (map {B = ℕ × List (ℕ × NodeId)} (inside (map (inside id_of))) nodes) ≡ own_cells n ids nodes
cells_bare n [] nodes = refl
cells_bare n (id ∷ ids) [] = refl
cells_bare n (id ∷ ids) (p ∷ ps) =
    ap (λ (l : List Cell). (id, Inner (record { children = map (λ (child : ℕ × NodeId). child.1) (map (inside id_of) p.1); separators = separators_of (map (inside id_of) p.1) })) ∷ l) (cells_bare n ids ps)
    ∙ ap (λ (c : List NodeId). (id, Inner (record { children = c; separators = separators_of (map (inside id_of) p.1) })) ∷ own_cells n ids ps) (seconds p.1)
    ∙ ap (λ (s : List ℕ). (id, Inner (record { children = ids_of_children p.1; separators = s })) ∷ own_cells n ids ps) (firsts p.1)

-- ---- the level above

pub bare_length : {B : Type 0} (children : List (ℕ × (NodeId × B))) → length (bare children) ≡ length children
bare_length children = length-map' (λ child. let p : Piece = record { low = child.0; id = child.1.0 } in p) children

level_count : (tree : Tree) (others : List Cell) (nodes : NodeId → Option Node) (below : ℕ) (level : List Piece) (is : IsLevel tree others nodes below level) → length level ≡ length (values is.n is.children)
level_count tree others nodes below level is = sym (ap length is.pieces) ∙ bare_length is.children ∙ sym (length-map' {B = ℕ × Subtree is.n} (λ child. (child.0, value_in is.n child.1.1)) is.children)

pub made_count : (level made : List Piece) (old new : NodeId → Option Node) → IsTaken level made old new → length made ≡ piece_count MOST_CHILDREN (length level)
made_count level made old new taken =
    ap length taken.pieces ∙ counted taken.ids (nodes_of level) taken.many
    ∙ pairs_count (map pair_of level) ∙ ap (piece_count MOST_CHILDREN) (length-map' pair_of level)
  where
    counted : (ids : List NodeId) (nodes : List (ℕ × List (ℕ × NodeId))) → length ids ≡ length nodes → length (pieces_of ids nodes) ≡ length nodes
    counted [] [] e = refl
    counted [] (n ∷ ns) e = absurd (omega arith)
    counted (i ∷ is) [] e = absurd (omega arith)
    counted (i ∷ is) (n ∷ ns) e = ap suc (counted is ns (omega arith))

    pairs_count : (pairs : List (ℕ × NodeId)) → length (nodes_over 0 pairs) ≡ piece_count MOST_CHILDREN (length pairs)
    pairs_count pairs = length_with_lows low_of node_over 0 (cut MOST_CHILDREN pairs) ∙ pieces_are_counted MOST_CHILDREN pairs

pub level_next : (tree : Tree) (others : List Cell) (old new : NodeId → Option Node) (below : ℕ) (level made : List Piece) → 2 ≤ length level → IsTaken level made old new
    → IsLevel tree others old below level → IsLevel tree others new (below + 1) made
level_next tree others old new below level made two taken is =
    let n = is.n in
    let children = is.children in
    let count = level_count tree others old below level is in
    let many_values : 2 ≤ length (values n children) = omega (arith, two, count) in
    let nodes : nodes_of level ≡ map (inside (map (inside id_of))) (nodes_over 0 children) = ap nodes_of (sym is.pieces) ∙ nodes_bare n children in
    let many : length taken.ids ≡ length (nodes_over 0 children) = taken.many ∙ ap length nodes ∙ length-map' (inside (map (inside id_of))) (nodes_over 0 children) in
    let value : values (suc n) (with_ids taken.ids (nodes_over 0 children)) ≡ nodes_over 0 (values n children) = ids_values n taken.ids (nodes_over 0 children) many ∙ nodes_values n 0 children in
    let cells : cells_at taken.ids (nodes_of level) ≡ own_cells n taken.ids (nodes_over 0 children) = ap (cells_at taken.ids) nodes ∙ cells_bare n taken.ids (nodes_over 0 children) in
    record {
      n = suc n;
      below-is = omega (arith, is.below-is);
      children = with_ids taken.ids (nodes_over 0 children);
      pieces = sym (pieces_bare n taken.ids (nodes_over 0 children)) ∙ ap (pieces_of taken.ids) (sym nodes) ∙ sym taken.pieces;
      same = ap (top (suc n)) value ∙ top_next n (values n children) many_values ∙ is.same;
      orderly = subst (IsOrderly (suc n)) (sym value) (nodes_orderly n (values n children) many_values is.orderly);
      owned =
          owned_same new ((own_cells n taken.ids (nodes_over 0 children) ++ cells_under n children) ++ others) (cells_under (suc n) (with_ids taken.ids (nodes_over 0 children)) ++ others)
          (subst (Owns new) (sym (append_assoc (own_cells n taken.ids (nodes_over 0 children)) (cells_under n children) others)) (subst (λ cs. Owns new (cs ++ (cells_under n children ++ others))) cells (taken.turns (cells_under n children ++ others) is.owned)))
          (same_append (own_cells n taken.ids (nodes_over 0 children) ++ cells_under n children) (cells_under (suc n) (with_ids taken.ids (nodes_over 0 children))) others others (λ i. sym (nodes_cells n 0 taken.ids children many i)) (λ i. refl));
    }

later_values : (n : ℕ) (children : List (ℕ × Placed n)) → map (λ (piece : Piece). piece.low) (bare children) ≡ map low_of (values n children)
later_values n [] = refl
later_values n (c ∷ cs) = ap (λ l. c.0 ∷ l) (later_values n cs)

-- The lows of two or more pieces rise.
pub level_rises : (tree : Tree) (others : List Cell) (nodes : NodeId → Option Node) (below : ℕ) (level : List Piece) → 2 ≤ length level → IsLevel tree others nodes below level → Rise (later_lows level)
level_rises tree others nodes below level two is = by is.orderly
  where
    lows : (children : List (ℕ × Placed is.n)) → later_lows (bare children) ≡ map low_of (drop 1 (values is.n children))
    lows [] = refl
    lows (c ∷ cs) = later_values is.n cs

    by : IsOrderly is.n (values is.n is.children) → Rise (later_lows level)
    by (inl one) = absurd (omega (arith, one, two, level_count tree others nodes below level is))
    by (inr (h, order)) = subst (λ ps. Rise (later_lows ps)) is.pieces (subst Rise (sym (lows is.children)) (lows_rise is.n 0 h (values is.n is.children) order))

-- One piece alone is the root.
pub level_last : (tree : Tree) (others : List Cell) (nodes : NodeId → Option Node) (below : ℕ) (level : List Piece) (piece : Piece) (shape : Shape) → length level ≤ 1 → slice_get level 0 ≡ Some piece
    → shape ≡ record { root = piece.id; levels = below + 1 } → IsLevel tree others nodes below level → StandsAlone tree others nodes shape
level_last tree others nodes below level piece shape one at shaped is = by level is.children one at is.pieces is.same is.owned
  where
    by : (level : List Piece) (children : List (ℕ × Placed is.n)) → length level ≤ 1 → slice_get level 0 ≡ Some piece → bare children ≡ level → top is.n (values is.n children) ≡ tree → Owns nodes (cells_under is.n children ++ others)
        → StandsAlone tree others nodes shape
    by [] children one at pieces same owned = absurd cc
    by (p ∷ q ∷ ps) children one at pieces same owned = absurd (omega arith)
    by (p ∷ []) [] one at pieces same owned = absurd cc
    by (p ∷ []) (c ∷ d ∷ cs) one at pieces same owned = absurd (omega (arith, ap length pieces))
    by (p ∷ []) (c ∷ []) one at pieces same owned =
        let own : p ≡ piece = cc in
        let id : c.1.0 ≡ p.id = ap (λ (l : List Piece). (get_or l 0 p).id) pieces in
        record {
          tree = (is.n, c.1);
          root = ap (λ (s : Shape). s.root) shaped ∙ ap (λ (q : Piece). q.id) (sym own) ∙ sym id;
          levels = ap (λ (s : Shape). s.levels) shaped ∙ omega (arith, is.below-is);
          value-is = sym (top_alone is.n (c.0, value_in is.n c.1.1)) ∙ same;
          owned = subst (λ cs. Owns nodes (cs ++ others)) (append-nil (cells_of is.n c.1)) owned;
        }

-- ---- steps

-- Nothing was raised yet, or as many steps and pieces are accounted for as twice the nodes over the lowest level.
pub TicksSoFar : ℕ → ℕ → ℕ → ℕ → Type 0
TicksSoFar lowest count before now = ((now ≤ before) × (count ≡ lowest)) ⊎ ((2 ≤ lowest) × (now + count ≤ before + 2 * piece_count MOST_CHILDREN lowest))

pub ticks_first : (count steps : ℕ) → TicksSoFar count count steps steps
unfolding TicksSoFar
ticks_first count steps = inl (omega arith, refl)

pub ticks_next : (lowest count made before now later : ℕ) → 2 ≤ count → made ≡ piece_count MOST_CHILDREN count → later ≤ now + piece_count MOST_CHILDREN count → TicksSoFar lowest count before now → TicksSoFar lowest made before later
unfolding TicksSoFar
ticks_next lowest count made before now later two is more (inl (none, same)) = inr (omega (arith, two, same), rw (sym same) (omega (arith, none, is, more)))
ticks_next lowest count made before now later two is more (inr (some, bound)) = let half = half_as_many count two in inr (some, omega (arith, is, more, bound, half))

pub ticks_last : (lowest count before now : ℕ) → 1 ≤ count → count ≤ 1 → TicksSoFar lowest count before now → HasRaised lowest before now
unfolding TicksSoFar
ticks_last lowest count before now some one (inl (none, same)) = inl (omega (arith, one, same), none)
ticks_last lowest count before now some one (inr (two, bound)) = inr (two, omega (arith, bound, some))

-- ---- levels

pub few_first : (count below : ℕ) → count < 2 ^ 64 → below ≤ MOST_LEVELS → count * 2 ^ (below + 1) ≤ 2 ^ 82
few_first count below fit low =
    let most : 2 ^ (below + 1) ≤ 2 ^ 18 = pow_mono {i = below + 1} {j = 18} (omega (arith, low)) in
    let product : count * 2 ^ (below + 1) ≤ count * 2 ^ 18 = mul-le-mul_left count most in
    omega (arith, product, fit)

pub few_next : (count made levels : ℕ) → 2 ≤ count → made ≡ piece_count MOST_CHILDREN count → count * 2 ^ levels ≤ 2 ^ 82 → made * 2 ^ (levels + 1) ≤ 2 ^ 82
few_next count made levels two is few = more_levels (2 ^ 82) count made levels (let half = half_as_many count two in omega (arith, is, half)) few

pub levels_fit : (count levels : ℕ) → 2 ≤ count → count * 2 ^ levels ≤ 2 ^ 82 → levels ≤ 81
levels_fit count levels two few = few_levels 81 count levels (omega arith) two few

-- Where room was refused, no more steps were taken than the whole would have.
pub ticks_refused : (lowest count before now later : ℕ) → 2 ≤ count → later ≤ now + piece_count MOST_CHILDREN count → TicksSoFar lowest count before now → HasRaised lowest before later
unfolding TicksSoFar
ticks_refused lowest count before now later two more so = by so (some_nodes count two) (half_as_many count two)
  where
    some_nodes : (count : ℕ) → 2 ≤ count → 1 ≤ piece_count MOST_CHILDREN count
    some_nodes count two = omega arith

    by : ((now ≤ before) × (count ≡ lowest)) ⊎ ((2 ≤ lowest) × (now + count ≤ before + 2 * piece_count MOST_CHILDREN lowest)) → 1 ≤ piece_count MOST_CHILDREN count → piece_count 16 count * 2 ≤ count → HasRaised lowest before later
    by (inl (none, same)) some half = inr (omega (arith, two, same), rw (sym same) (omega (arith, none, some, more)))
    by (inr (least, bound)) some half = inr (least, omega (arith, more, bound, half, some))

-- A level more has a node, and fewer than the one below.
pub made_some : (count made : ℕ) → 2 ≤ count → made ≡ piece_count MOST_CHILDREN count → 1 ≤ made
made_some count made two is = omega (arith, is, two)

pub made_fewer : (count made : ℕ) → 2 ≤ count → made ≡ piece_count MOST_CHILDREN count → suc made ≤ count
made_fewer count made two is = let half = half_as_many count two in omega (arith, is, two, half)
