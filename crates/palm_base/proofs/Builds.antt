-- A lawful tree through which nothing is passed stays as it is, so that the tree over the leaves of a sorted list is the one
-- that a batch of its rows leaves.
use Rattle.std.proofs.Common.{◌≡◌, ℕ, zero, suc, ◌≤◌, List, [], ◌∷◌, length, map, filter, refl, ap, arith, ◌∙◌, inl, inr}
use Rattle.std.specs.List.{flat_map, AllByRecursion}
use Rattle.std.proofs.lemmas.Bool.{cases_lt, le-leb}
use Rattle.palm_base.specs.Table.{after_all, IsTable}
use Rattle.palm_base.specs.Tree.{Subtree, Tree}
use Rattle.palm_base.specs.Cut.{cut}
use Rattle.palm_base.specs.Pass.{Outcome, pass, below, leaf_outcome, inner_outcome, leaves_of, node_over, top, top_in, base_pass, passed_tree, is_edit, set_of, orphans_of, batch_tree}
use Rattle.palm_base.specs.Lawful.{HasFromTo, Rising, Sound, InOrder, IsLawful, next_low}
use Rattle.palm_base.specs.declared.bounds.TheConstants.{LEAST_LEAF_ROWS, MOST_LEAF_ROWS, LEAST_CHILDREN, MOST_CHILDREN}
use Rattle.palm_base.proofs.Cuts.{cut_none, few_are_one_piece, pieces_join}
use Rattle.palm_base.proofs.CutParts.{large, cut_sizes}
use Rattle.palm_base.proofs.RisingRows.{put_all_none}
use Rattle.palm_base.proofs.RisingTables.{key_bound, table_rises}
use Rattle.palm_base.proofs.SoundNodes.{leaves_in_order, node_over_same}
use Rattle.palm_base.proofs.Tops.{top_holds}
use Rattle.palm_base.specs.declared.row.Row.{Row}
use Rattle.palm_base.specs.declared.call.Call.{Call}

-- the node itself, at its low, with nothing loose
abbrev itself : (n low : ℕ) → Subtree n → Outcome n
itself n low node = record { pieces = (low, node) ∷ []; loose = [] }

leaf_itself : (low : ℕ) (rows : List Row) → LEAST_LEAF_ROWS ≤ length rows → length rows ≤ MOST_LEAF_ROWS → leaf_outcome low rows ≡ itself zero low rows
leaf_itself low rows least most =
    let one : cut MOST_LEAF_ROWS rows ≡ rows ∷ [] = few_are_one_piece MOST_LEAF_ROWS rows (omega arith) most in
    rw (large LEAST_LEAF_ROWS rows least, one) refl

inner_itself : (n low : ℕ) (children : List (ℕ × Subtree n)) → LEAST_CHILDREN ≤ length children → length children ≤ MOST_CHILDREN → next_low (λ child. child.0) 0 children ≡ 0
    → inner_outcome n low (record { pieces = children; loose = [] }) ≡ itself (suc n) low children
inner_itself n low children least most first =
    let one : cut MOST_CHILDREN children ≡ children ∷ [] = few_are_one_piece MOST_CHILDREN children (omega arith) most in
    rw (large LEAST_CHILDREN children least, one, node_over_same n children first) refl

-- children through which nothing is passed are their own pieces
children_themselves : (n : ℕ) → ((low l h : ℕ) (node : Subtree n) → Sound n l h node → pass n low node [] ≡ itself n low node)
    → (l h : ℕ) (children : List (ℕ × Subtree n)) → InOrder n l h children → below n (pass n) children [] ≡ record { pieces = children; loose = [] }
children_themselves n alone l h [] order = refl
children_themselves n alone l h (child ∷ []) order = alone child.0 l h child.1 order.0.1
children_themselves n alone l h (child ∷ next ∷ children) order =
    rw (alone child.0 l next.0 child.1 order.0.1, children_themselves n alone next.0 h (next ∷ children) order.1) refl

pub node_itself : (n low l h : ℕ) (node : Subtree n) → Sound n l h node → pass n low node [] ≡ itself n low node
unfolding pass
node_itself zero low l h rows sound = leaf_itself low rows sound.0.0 sound.0.1
node_itself (suc n) low l h children sound =
    let own = children_themselves n (λ low l h node s. node_itself n low l h node s) l h children sound.2 in
    rw own (inner_itself n low children sound.0.0 sound.0.1 sound.1)

pub top_few : (n : ℕ) (pieces : List (ℕ × Subtree n)) → 2 ≤ length pieces → length pieces ≤ MOST_CHILDREN → top n pieces ≡ (suc n, node_over pieces)
unfolding top top_in
top_few n [] some few = absurd (omega arith)
top_few n (piece ∷ []) some few = absurd (omega arith)
top_few n (piece ∷ next ∷ more) some few = rw (le-leb (length (piece ∷ next ∷ more)) MOST_CHILDREN few) refl

-- The rows of a root leaf are its one piece, or no piece where there are none.
pub leaf_top : (rows : List Row) → length rows ≤ MOST_LEAF_ROWS → top zero (leaves_of 0 rows) ≡ (zero, rows)
unfolding top top_in
leaf_top [] few = rw (cut_none {X = Row} MOST_LEAF_ROWS (omega arith)) refl
leaf_top (row ∷ rows) few = rw (few_are_one_piece MOST_LEAF_ROWS (row ∷ rows) (omega arith) few) refl

-- A lawful tree through which nothing is passed stays as it is.
pub tree_itself : (tree : Tree) → IsLawful tree → passed_tree tree [] ≡ tree
tree_itself (zero, rows) lawful = leaf_top rows lawful.1.0
tree_itself (suc n, children) lawful =
    let own = children_themselves n (λ low l h node s. node_itself n low l h node s) 0 lawful.0 children lawful.1.2 in
    let pieces : (base_pass (suc n) children []).pieces ≡ children = ap (λ (o : Outcome n). o.pieces) own in
    ap (top n) pieces ∙ top_few n children lawful.1.0.0 lawful.1.0.1 ∙ ap (λ (c : Subtree (suc n)). (suc n, c)) (node_over_same n children lawful.1.1)

-- Nothing is loose then.
none_loose : (tree : Tree) → IsLawful tree → (base_pass tree.0 tree.1 []).loose ≡ []
none_loose (zero, rows) lawful = refl
none_loose (suc n, children) lawful =
    ap (λ (o : Outcome n). o.loose) (children_themselves n (λ low l h node s. node_itself n low l h node s) 0 lawful.0 children lawful.1.2)

-- So it stays as it is in a batch of no calls.
pub batch_of_none : (tree : Tree) → IsLawful tree → batch_tree tree [] ≡ tree
batch_of_none tree lawful =
    let orphans : orphans_of tree [] ≡ [] = ap (λ (rows : List Row). after_all [] (map set_of rows)) (none_loose tree lawful) in
    ap (λ (rows : List Row). passed_tree (passed_tree tree []) (map set_of rows)) orphans
    ∙ ap (λ (t : Tree). passed_tree t []) (tree_itself tree lawful)
    ∙ tree_itself tree lawful

-- ---- the tree of sorted rows

edits_of_sets : (rows : List Row) → filter is_edit (map set_of rows) ≡ map set_of rows
edits_of_sets [] = refl
edits_of_sets (row ∷ rows) = ap (λ (calls : List Call). set_of row ∷ calls) (edits_of_sets rows)

-- The root over the leaves of rising rows makes a lawful tree.
pub leaves_lawful : (h : ℕ) (rows : List Row) → Rising 0 h rows → IsLawful (top zero (leaves_of 0 rows))
leaves_lawful h rows rise =
    elim (cases_lt MOST_LEAF_ROWS (length rows)) [
      | inl many ↦
          let whole : Rising 0 h (flat_map (λ part. part) (cut MOST_LEAF_ROWS rows)) = rw (pieces_join MOST_LEAF_ROWS rows (omega arith)) rise in
          let sizes : AllByRecursion (HasFromTo LEAST_LEAF_ROWS MOST_LEAF_ROWS) (cut MOST_LEAF_ROWS rows) = cut_sizes LEAST_LEAF_ROWS rows (omega arith) many in
          (h, (top_holds zero h (leaves_of 0 rows) (leaves_in_order 0 0 h (cut MOST_LEAF_ROWS rows) sizes whole)).root)
      | inr few ↦ rw (leaf_top rows few) (h, (few, rise))
    ]

-- The batch of a table's rows as Sets leaves of the empty tree the root over the table's leaves.
pub built : (rows : List Row) → IsTable rows → batch_tree (zero, []) (map set_of rows) ≡ top zero (leaves_of 0 rows)
built rows table =
    let rise = table_rises rows table in
    let all : after_all [] (map set_of rows) ≡ rows = put_all_none 0 (key_bound rows) rows rise in
    rw (edits_of_sets rows, all) (tree_itself (top zero (leaves_of 0 rows)) (leaves_lawful (key_bound rows) rows rise))
