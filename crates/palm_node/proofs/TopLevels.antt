-- Levels of nodes, one above another, up to the root: how many nodes they have, that they stay in order, and that the tree
-- over them stays the same.
use Rattle.std.proofs.Common.{◌≡◌, ℕ, zero, suc, ◌+◌, ◌*◌, ◌^◌, ◌<◌, ◌≤◌, List, [], ◌∷◌, length, map, drop, refl, sym, ap, arith, ◌∙◌, ◌⊎◌, inl, inr}
use Rattle.std.specs.List.{flat_map, AllByRecursion}
use Rattle.std.proofs.lemmas.Bool.{cases_lt}
use Rattle.std.proofs.Math.Nat.{mul-le-mul_right, pow-suc}
use Rattle.std.proofs.Math.Pow.{pow_mono}
use Rattle.palm_base.specs.Table.{row_key, IsTable}
use Rattle.palm_base.specs.Cut.{piece_count, cut}
use Rattle.palm_base.specs.Tree.{Subtree}
use Rattle.palm_base.specs.Pass.{with_lows, leaves_of, node_over, nodes_over, top, top_in}
use Rattle.palm_base.specs.Lawful.{Rising, InOrder, IsOrderly}
use Rattle.palm_base.specs.declared.bounds.TheConstants.{LEAST_LEAF_ROWS, MOST_LEAF_ROWS, LEAST_CHILDREN, MOST_CHILDREN}
use Rattle.palm_base.specs.declared.row.Row.{Row}
use Rattle.palm_base.proofs.Builds.{top_few}
use Rattle.palm_base.proofs.Cuts.{few_are_one_piece, pieces_join, pieces_are_counted}
use Rattle.palm_base.proofs.CutParts.{cut_sizes}
use Rattle.palm_base.proofs.Every.{every_weaker}
use Rattle.palm_base.proofs.RisingTables.{key_bound, table_rises}
use Rattle.palm_base.proofs.SoundNodes.{low_of, leaves_in_order, nodes_in_order, length_with_lows}
use Rattle.palm_base.proofs.Tops.{top_of_many}
use Rattle.palm_node.specs.InnerNode.{Rise}

-- ---- how many nodes a level has

pub nodes_count : (n : ℕ) (children : List (ℕ × Subtree n)) → length (nodes_over 0 children) ≡ piece_count MOST_CHILDREN (length children)
nodes_count n children = length_with_lows low_of node_over 0 (cut MOST_CHILDREN children) ∙ pieces_are_counted MOST_CHILDREN children

pub leaves_count : (rows : List Row) → length (leaves_of 0 rows) ≡ piece_count MOST_LEAF_ROWS (length rows)
leaves_count rows = length_with_lows row_key (λ part. part) 0 (cut MOST_LEAF_ROWS rows) ∙ pieces_are_counted MOST_LEAF_ROWS rows

-- Half as many, or fewer, of at least two.
pub half_as_many : (count : ℕ) → 2 ≤ count → piece_count 16 count * 2 ≤ count
half_as_many count two = omega arith

-- ---- children in order, or one alone

pub leaves_orderly : (rows : List Row) → IsTable rows → IsOrderly zero (leaves_of 0 rows)
leaves_orderly rows table = by (cases_lt MOST_LEAF_ROWS (length rows))
  where
    by : (MOST_LEAF_ROWS < length rows) ⊎ (length rows ≤ MOST_LEAF_ROWS) → IsOrderly zero (leaves_of 0 rows)
    by (inl many) =
        let rise = table_rises rows table in
        let whole : Rising 0 (key_bound rows) (flat_map (λ part. part) (cut MOST_LEAF_ROWS rows)) = rw (pieces_join MOST_LEAF_ROWS rows (omega arith)) rise in
        inr (key_bound rows, leaves_in_order 0 0 (key_bound rows) (cut MOST_LEAF_ROWS rows) (cut_sizes LEAST_LEAF_ROWS rows (omega arith) many) whole)
    by (inr few) = inl (omega (arith, few, leaves_count rows))

pub nodes_orderly : (n : ℕ) (children : List (ℕ × Subtree n)) → 2 ≤ length children → IsOrderly n children → IsOrderly (suc n) (nodes_over 0 children)
nodes_orderly n children two (inl one) = absurd (omega arith)
nodes_orderly n children two (inr (h, order)) = by (cases_lt MOST_CHILDREN (length children))
  where
    by : (MOST_CHILDREN < length children) ⊎ (length children ≤ MOST_CHILDREN) → IsOrderly (suc n) (nodes_over 0 children)
    by (inl many) =
        inr (
          h,
          nodes_in_order n 0 0 h (cut MOST_CHILDREN children) (cut_sizes LEAST_CHILDREN children (omega arith) many)
              (rw (pieces_join MOST_CHILDREN children (omega arith)) order),
        )
    by (inr few) = inl (omega (arith, few, nodes_count n children))

-- One child alone is the root.
pub top_alone : (n : ℕ) (child : ℕ × Subtree n) → top n (child ∷ []) ≡ (n, child.1)
unfolding top top_in
top_alone n child = refl

-- The tree over children is the one over the nodes over them.
pub top_next : (n : ℕ) (children : List (ℕ × Subtree n)) → 2 ≤ length children → top (suc n) (nodes_over 0 children) ≡ top n children
top_next n children two = by (cases_lt MOST_CHILDREN (length children))
  where
    by : (MOST_CHILDREN < length children) ⊎ (length children ≤ MOST_CHILDREN) → top (suc n) (nodes_over 0 children) ≡ top n children
    by (inl many) = sym (top_of_many n children many)
    by (inr few) =
        let one : cut MOST_CHILDREN children ≡ children ∷ [] = few_are_one_piece MOST_CHILDREN children (omega arith) few in
        ap (λ (parts : List (List (ℕ × Subtree n))). top (suc n) (with_lows low_of node_over 0 parts)) one
        ∙ top_alone (suc n) (0, node_over children) ∙ sym (top_few n children two few)

-- ---- rising lows

pub lows_above : (n l h : ℕ) (children : List (ℕ × Subtree n)) → InOrder n l h children → AllByRecursion (λ low. l < low) (map low_of (drop 1 children))
lows_above n l h [] order = tt
lows_above n l h (child ∷ []) order = tt
lows_above n l h (child ∷ next ∷ children) order =
    let first : l < next.0 = order.0.0 in
    (first, every_weaker (λ low. next.0 < low) (λ low. l < low) (λ low above. omega (arith, above, first)) (map low_of children) (lows_above n next.0 h (next ∷ children) order.1))

pub lows_rise : (n l h : ℕ) (children : List (ℕ × Subtree n)) → InOrder n l h children → Rise (map low_of (drop 1 children))
lows_rise n l h [] order = tt
lows_rise n l h (child ∷ []) order = tt
lows_rise n l h (child ∷ next ∷ children) order = (lows_above n next.0 h (next ∷ children) order.1, lows_rise n next.0 h (next ∷ children) order.1)

-- ---- how many levels there are

-- A level more has at most half as many nodes.
pub more_levels : (most count made levels : ℕ) → made * 2 ≤ count → count * 2 ^ levels ≤ most → made * 2 ^ (levels + 1) ≤ most
more_levels most count made levels half few =
    let twice : 2 ^ (levels + 1) ≡ 2 ^ levels * 2 = ap (λ (k : ℕ). 2 ^ k) (omega arith) ∙ pow-suc 2 levels in
    let most : made * 2 * 2 ^ levels ≤ count * 2 ^ levels = mul-le-mul_right (2 ^ levels) half in
    rw twice (omega (arith, most, few))

-- While a level has two nodes or more, there are few levels.
pub few_levels : (most count levels : ℕ) → 0 < 2 ^ (most + 1) → 2 ≤ count → count * 2 ^ levels ≤ 2 ^ (most + 1) → levels ≤ most
few_levels most count levels some two few = by (cases_lt most levels)
  where
    by : (most < levels) ⊎ (levels ≤ most) → levels ≤ most
    by (inr low) = low
    by (inl high) =
        let least : 2 ^ (most + 1) ≤ 2 ^ levels = pow_mono {i = most + 1} {j = levels} (omega (arith, high)) in
        let twice : 2 * 2 ^ levels ≤ count * 2 ^ levels = mul-le-mul_right (2 ^ levels) two in
        absurd (omega (arith, least, twice, few, some))
