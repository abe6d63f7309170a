-- Nodes over children, put under ids: their values, their cells and their pieces.
use Rattle.std.proofs.Common.{◌≡◌, ℕ, suc, List, [], ◌∷◌, ◌++◌, length, map, refl, sym, ap, ◌∙◌, arith}
use Rattle.std.specs.List.{flat_map}
use Rattle.std.proofs.lemmas.List.Concat.{flat_map-append}
use Rattle.palm_base.specs.Cut.{cut}
use Rattle.palm_base.specs.Tree.{Subtree}
use Rattle.palm_base.specs.Pass.{with_lows, node_over, nodes_over, first_low}
use Rattle.palm_base.specs.declared.bounds.TheConstants.{MOST_CHILDREN}
use Rattle.palm_base.proofs.Cuts.{pieces_join}
use Rattle.palm_node.specs.declared.id.NodeId.{NodeId}
use Rattle.palm_node.specs.declared.node.Node.TheVariants.{Inner}
use Rattle.palm_arena.specs.Cells.{both, found_at, SameCells}
use Rattle.palm_arena.specs.Placed.{Body, Placed, value_in, values, cells_of, cells_under, ids_of_children, with_ids, own_cells}
use Rattle.palm_arena.specs.Routes.{separators_of}
use Rattle.palm_arena.proofs.Natural.{cut-map, inside, with_lows-map, node_over-map}
use Rattle.palm_arena.proofs.CellLists.{at-append, same_cross}

-- Nodes under ids have the nodes' values.
pub ids_values : (n : ℕ) (ids : List NodeId) (nodes : List (ℕ × Body (suc n))) → length ids ≡ length nodes → values (suc n) (with_ids ids nodes) ≡ map {B = ℕ × Subtree (suc n)} (inside (value_in (suc n))) nodes
ids_values n [] [] e = refl
ids_values n [] (p ∷ ps) e = absurd (omega arith)
ids_values n (id ∷ ids) [] e = absurd (omega arith)
ids_values n (id ∷ ids) (p ∷ ps) e = ap (λ ks. (p.0, value_in (suc n) p.1) ∷ ks) (ids_values n ids ps (omega arith))

later-inside : {A B C : Type 0} (g : B → C) (node : List (ℕ × A) → B) (parts : List (List (ℕ × A)))
    → map {B = ℕ × C} (inside g) (map {B = ℕ × B} (λ p. (first_low (λ child. child.0) p, node p)) parts) ≡ map {B = ℕ × C} (λ p. (first_low (λ child. child.0) p, g (node p))) parts
later-inside g node [] = refl
later-inside g node (p ∷ ps) = ap (λ ks. (first_low (λ child. child.0) p, g (node p)) ∷ ks) (later-inside g node ps)

pub with_lows-inside : {A B C : Type 0} (g : B → C) (node : List (ℕ × A) → B) (low : ℕ) (parts : List (List (ℕ × A)))
    → map {B = ℕ × C} (inside g) (with_lows (λ child. child.0) node low parts) ≡ with_lows (λ child. child.0) (λ p. g (node p)) low parts
with_lows-inside g node low [] = refl
with_lows-inside g node low (p ∷ ps) = ap (λ ks. (low, g (node p)) ∷ ks) (later-inside g node ps)

-- The nodes over children go along with their insides.
pub nodes-inside : {A B : Type 0} (f : A → B) (low : ℕ) (children : List (ℕ × A)) → map {B = ℕ × List (ℕ × B)} (inside (map (inside f))) (nodes_over low children) ≡ nodes_over low (map (inside f) children)
nodes-inside f low children =
    with_lows-inside (map (inside f)) node_over low (cut MOST_CHILDREN children)
    ∙ sym (with_lows-map f (λ p. map (inside f) (node_over p)) node_over (node_over-map f) low (cut MOST_CHILDREN children))
    ∙ ap (with_lows (λ child. child.0) node_over low) (sym (cut-map (inside f) MOST_CHILDREN children))

-- The nodes over placed children have the values of the nodes over their values.
pub nodes_values : (n low : ℕ) (children : List (ℕ × Placed n)) → map {B = ℕ × Subtree (suc n)} (inside (value_in (suc n))) (nodes_over low children) ≡ nodes_over low (values n children)
nodes_values n low children = nodes-inside (λ (p : Placed n). value_in n p.1) low children

pub over_cells : (n : ℕ) (children : List (ℕ × Placed n)) → cells_under n (node_over children) ≡ cells_under n children
over_cells n [] = refl
over_cells n (child ∷ children) = refl

ids_cells : (n : ℕ) (ids : List NodeId) (nodes : List (ℕ × Body (suc n))) → length ids ≡ length nodes → SameCells (cells_under (suc n) (with_ids ids nodes)) (own_cells n ids nodes ++ flat_map (λ p. cells_under n p.1) nodes)
ids_cells n [] [] e i = refl
ids_cells n [] (p ∷ ps) e i = absurd (omega arith)
ids_cells n (id ∷ ids) [] e i = absurd (omega arith)
ids_cells n (id ∷ ids) (p ∷ ps) e i =
    at-append i ((id, Inner (record { children = ids_of_children p.1; separators = separators_of p.1 })) ∷ cells_under n p.1) (cells_under (suc n) (with_ids ids ps))
    ∙ ap (both (found_at i ((id, Inner (record { children = ids_of_children p.1; separators = separators_of p.1 })) ∷ cells_under n p.1))) (ids_cells n ids ps (omega arith) i)
    ∙ sym (at-append i ((id, Inner (record { children = ids_of_children p.1; separators = separators_of p.1 })) ∷ cells_under n p.1) (own_cells n ids ps ++ flat_map (λ p. cells_under n p.1) ps))
    ∙ same_cross ((id, Inner (record { children = ids_of_children p.1; separators = separators_of p.1 })) ∷ []) (cells_under n p.1) (own_cells n ids ps) (flat_map (λ p. cells_under n p.1) ps) i

later_cells : (n : ℕ) (parts : List (List (ℕ × Placed n))) → flat_map (λ (p : ℕ × Body (suc n)). cells_under n p.1) (map (λ p. (first_low (λ child. child.0) p, node_over p)) parts) ≡ cells_under n (flat_map (λ p. p) parts)
later_cells n [] = refl
later_cells n (p ∷ ps) = rw (over_cells n p, later_cells n ps) (sym (flat_map-append (λ (child : ℕ × Placed n). cells_of n child.1) p (flat_map (λ p. p) ps)))

lows_cells : (n low : ℕ) (parts : List (List (ℕ × Placed n))) → flat_map (λ (p : ℕ × Body (suc n)). cells_under n p.1) (with_lows (λ child. child.0) node_over low parts) ≡ cells_under n (flat_map (λ p. p) parts)
lows_cells n low [] = refl
lows_cells n low (p ∷ ps) = rw (over_cells n p, later_cells n ps) (sym (flat_map-append (λ (child : ℕ × Placed n). cells_of n child.1) p (flat_map (λ p. p) ps)))

-- Nodes under ids with all that is under them are their own cells and those of the children.
pub nodes_cells : (n low : ℕ) (ids : List NodeId) (children : List (ℕ × Placed n)) → length ids ≡ length (nodes_over low children)
    → SameCells (cells_under (suc n) (with_ids ids (nodes_over low children))) (own_cells n ids (nodes_over low children) ++ cells_under n children)
nodes_cells n low ids children e i =
    ids_cells n ids (nodes_over low children) e i
    ∙ ap (λ cs. found_at i (own_cells n ids (nodes_over low children) ++ cs)) (lows_cells n low (cut MOST_CHILDREN children) ∙ ap (cells_under n) (pieces_join MOST_CHILDREN children (omega arith)))
