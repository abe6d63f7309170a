-- A pass of Sets never lowers a tree, since a root's children get no fewer.
use Rattle.std.proofs.Common.{ℕ, zero, suc, ◌<◌, ◌≤◌, Bool, true, false, cond, leb, List, [], ◌∷◌, length, arith}
use Rattle.std.specs.List.{AllByRecursion}
use Rattle.palm_base.specs.Lawful.{IsLawful}
use Rattle.palm_base.specs.Pass.{below, pass, node_over, nodes_over, top, top_in, passed_tree}
use Rattle.palm_base.specs.Tree.{Subtree, Tree, levels_of}
use Rattle.palm_base.specs.declared.bounds.TheConstants.{MOST_CHILDREN}
use Rattle.palm_base.specs.declared.call.Call.{Call}
use Rattle.palm_base.proofs.Sets.{IsSet, below_sets, pass_sets, some_pieces}
use Rattle.palm_base.proofs.SoundNodes.{low_of}

-- A root over pieces stands no lower than they do.
top_stands : (levels n : ℕ) (pieces : List (ℕ × Subtree n)) → 0 < length pieces → n ≤ (top_in levels n pieces).0
unfolding top_in
top_stands levels n [] some = absurd (omega arith)
top_stands levels n (piece ∷ []) some = omega arith
top_stands zero n (piece ∷ next ∷ more) some = omega arith
top_stands (suc levels) n (piece ∷ next ∷ more) some =
    by (leb (length (piece ∷ next ∷ more)) MOST_CHILDREN)
    (top_stands levels (suc n) (nodes_over 0 (piece ∷ next ∷ more)) (some_pieces MOST_CHILDREN low_of node_over 0 (piece ∷ next ∷ more) (omega arith) (omega arith)))
  where
    by : (few : Bool) → suc n ≤ (top_in levels (suc n) (nodes_over 0 (piece ∷ next ∷ more))).0
        → n ≤ (cond few (suc n, node_over (piece ∷ next ∷ more)) (top_in levels (suc n) (nodes_over 0 (piece ∷ next ∷ more)))).0
    by true higher = omega arith
    by false higher = omega arith

-- Over two or more it stands higher.
top_rises : (n : ℕ) (pieces : List (ℕ × Subtree n)) → 2 ≤ length pieces → suc n ≤ (top n pieces).0
unfolding top top_in
top_rises n [] many = absurd (omega arith)
top_rises n (piece ∷ []) many = absurd (omega arith)
top_rises n (piece ∷ next ∷ more) many =
    by (leb (length (piece ∷ next ∷ more)) MOST_CHILDREN)
    (top_stands (length (next ∷ more)) (suc n) (nodes_over 0 (piece ∷ next ∷ more)) (some_pieces MOST_CHILDREN low_of node_over 0 (piece ∷ next ∷ more) (omega arith) (omega arith)))
  where
    by : (few : Bool) → suc n ≤ (top_in (length (next ∷ more)) (suc n) (nodes_over 0 (piece ∷ next ∷ more))).0
        → suc n ≤ (cond few (suc n, node_over (piece ∷ next ∷ more)) (top_in (length (next ∷ more)) (suc n) (nodes_over 0 (piece ∷ next ∷ more)))).0
    by true higher = omega arith
    by false higher = higher

pub sets_keep_levels : (tree : Tree) (edits : List Call) → IsLawful tree → AllByRecursion IsSet edits → levels_of tree ≤ levels_of (passed_tree tree edits)
sets_keep_levels (zero, rows) edits lawful sets = omega arith
sets_keep_levels (suc n, children) edits lawful sets =
    let more = (below_sets n (pass_sets n) 0 lawful.0 children edits lawful.1.2 sets).1 in
    let sizes = lawful.1.0 in
    let higher = top_rises n (below n (pass n) children edits).pieces (omega arith) in
    omega arith
