-- The root over pieces in order: a lawful root that holds their rows.
use Rattle.std.proofs.Common.{◌≡◌, ◌<◌, ℕ, zero, suc, ◌≤◌, Bool, true, false, nat_le, List, [], ◌∷◌, length, cond, ◌⊎◌, inl, inr, refl, sym, ap, subst, arith, ◌∙◌}
use Rattle.std.proofs.lemmas.Bool.{leb-true, leb-false, lt-leb, le-leb, cases_lt}
use Rattle.std.proofs.lemmas.List.{append-nil}
use Rattle.palm_base.specs.Cut.{cut}
use Rattle.palm_base.specs.Tree.{Subtree, Tree, rows_in, rows_of}
use Rattle.palm_base.specs.Pass.{rows_under, node_over, nodes_over, top, top_in}
use Rattle.palm_base.specs.Lawful.{Sound, InOrder, Root}
use Rattle.palm_base.specs.declared.bounds.TheConstants.{LEAST_CHILDREN, MOST_CHILDREN}
use Rattle.palm_base.proofs.Cuts.{pieces_join}
use Rattle.palm_base.proofs.CutParts.{cut_sizes, cut_fewer}
use Rattle.palm_base.proofs.SoundNodes.{low_of, nodes_in_order, length_with_lows, rows_of_nodes}
use Rattle.palm_base.specs.declared.row.Row.{Row}

-- The tree's root is one for keys below `high`, and its rows are these.
pub record IsTreeOf (high : ℕ) (rows : List Row) (tree : Tree) : Type 0 where
  pub root : Root tree.0 high tree.1
  pub same : rows_of tree ≡ rows

sound_root : (n h : ℕ) (node : Subtree n) → Sound n 0 h node → Root n h node
sound_root zero h rows sound = (sound.0.1, sound.1)
sound_root (suc n) h children sound = ((omega arith, sound.0.1), sound.1, sound.2)

-- More pieces than a node holds are cut into fewer nodes.
nodes_fewer : (n : ℕ) (pieces : List (ℕ × Subtree n)) → MOST_CHILDREN < length pieces → length (nodes_over 0 pieces) < length pieces
nodes_fewer n pieces many = rw (length_with_lows low_of node_over 0 (cut MOST_CHILDREN pieces)) (cut_fewer LEAST_CHILDREN pieces (omega arith) many)

nodes_hold : (n h : ℕ) (pieces : List (ℕ × Subtree n)) → MOST_CHILDREN < length pieces → InOrder n 0 h pieces
    → InOrder (suc n) 0 h (nodes_over 0 pieces)
nodes_hold n h pieces many chain =
    nodes_in_order n 0 0 h (cut MOST_CHILDREN pieces) (cut_sizes LEAST_CHILDREN pieces (omega arith) many)
    (rw (pieces_join MOST_CHILDREN pieces (omega arith)) chain)

nodes_rows : (n : ℕ) (pieces : List (ℕ × Subtree n)) → rows_under (suc n) (nodes_over 0 pieces) ≡ rows_under n pieces
nodes_rows n pieces = rows_of_nodes n 0 (cut MOST_CHILDREN pieces) ∙ ap (rows_under n) (pieces_join MOST_CHILDREN pieces (omega arith))

top_in_holds : (levels n h : ℕ) (pieces : List (ℕ × Subtree n)) → length pieces ≤ levels → InOrder n 0 h pieces
    → IsTreeOf h (rows_under n pieces) (top_in levels n pieces)
unfolding top_in
top_in_holds levels n h [] fit chain = record { root = (omega arith, tt); same = refl }
top_in_holds levels n h (piece ∷ []) fit chain = record { root = sound_root n h piece.1 chain.0.1; same = sym (append-nil (rows_in n piece.1)) }
top_in_holds zero n h (piece ∷ next ∷ more) fit chain = absurd (omega arith)
top_in_holds (suc levels) n h (piece ∷ next ∷ more) fit chain =
    by (nat_le (length (piece ∷ next ∷ more)) MOST_CHILDREN) refl (λ fit chain. top_in_holds levels (suc n) h (nodes_over 0 (piece ∷ next ∷ more)) fit chain)
  where
    higher : List (ℕ × Subtree (suc n))
    higher = nodes_over 0 (piece ∷ next ∷ more)

    by : (b : Bool) → nat_le (length (piece ∷ next ∷ more)) MOST_CHILDREN ≡ b
        → (length higher ≤ levels → InOrder (suc n) 0 h higher → IsTreeOf h (rows_under (suc n) higher) (top_in levels (suc n) higher))
        → IsTreeOf h (rows_under n (piece ∷ next ∷ more)) (cond b (suc n, node_over (piece ∷ next ∷ more)) (top_in levels (suc n) higher))
    by true few rest = record { root = ((omega arith, leb-true (length (piece ∷ next ∷ more)) MOST_CHILDREN few), refl, chain); same = refl }
    by false not_few rest =
        let pieces = piece ∷ next ∷ more in
        let many = leb-false (length pieces) MOST_CHILDREN not_few in
        let fewer = nodes_fewer n pieces many in
        subst (λ rows. IsTreeOf h rows (top_in levels (suc n) higher)) (nodes_rows n pieces) (rest (omega arith) (nodes_hold n h pieces many chain))

pub top_holds : (n h : ℕ) (pieces : List (ℕ × Subtree n)) → InOrder n 0 h pieces → IsTreeOf h (rows_under n pieces) (top n pieces)
unfolding top
top_holds n h pieces chain = top_in_holds (length pieces) n h pieces (omega arith) chain

-- ---- the rule for many pieces

-- More levels than pieces change nothing.
levels_suffice : (levels others n : ℕ) (pieces : List (ℕ × Subtree n)) → length pieces ≤ levels → length pieces ≤ others
    → top_in levels n pieces ≡ top_in others n pieces
unfolding top_in
levels_suffice levels others n [] fit fit_others = refl
levels_suffice levels others n (piece ∷ []) fit fit_others = refl
levels_suffice zero others n (piece ∷ next ∷ more) fit fit_others = absurd (omega arith)
levels_suffice (suc levels) zero n (piece ∷ next ∷ more) fit fit_others = absurd (omega arith)
levels_suffice (suc levels) (suc others) n (piece ∷ next ∷ more) fit fit_others =
    by (cases_lt MOST_CHILDREN (length (piece ∷ next ∷ more))) (levels_suffice levels others (suc n) (nodes_over 0 (piece ∷ next ∷ more)))
  where
    higher : List (ℕ × Subtree (suc n))
    higher = nodes_over 0 (piece ∷ next ∷ more)

    by : (MOST_CHILDREN < length (piece ∷ next ∷ more)) ⊎ (length (piece ∷ next ∷ more) ≤ MOST_CHILDREN)
        → (length higher ≤ levels → length higher ≤ others → top_in levels (suc n) higher ≡ top_in others (suc n) higher)
        → top_in (suc levels) n (piece ∷ next ∷ more) ≡ top_in (suc others) n (piece ∷ next ∷ more)
    by (inl many) rest =
        let fewer = nodes_fewer n (piece ∷ next ∷ more) many in
        rw (lt-leb (length (piece ∷ next ∷ more)) MOST_CHILDREN many) (rest (omega arith) (omega arith))
    by (inr few) rest = rw (le-leb (length (piece ∷ next ∷ more)) MOST_CHILDREN few)

-- The tree over more pieces than a node holds is the tree over the nodes that they are cut into.
pub top_of_many : (n : ℕ) (pieces : List (ℕ × Subtree n)) → MOST_CHILDREN < length pieces → top n pieces ≡ top (suc n) (nodes_over 0 pieces)
unfolding top top_in
top_of_many n [] many = absurd (omega arith)
top_of_many n (piece ∷ []) many = absurd (omega arith)
top_of_many n (piece ∷ next ∷ more) many =
    let fewer = nodes_fewer n (piece ∷ next ∷ more) many in
    let higher = nodes_over 0 (piece ∷ next ∷ more) in
    rw (lt-leb (length (piece ∷ next ∷ more)) MOST_CHILDREN many)
    (levels_suffice (suc (length more)) (length higher) (suc n) higher (omega arith) (omega arith))
