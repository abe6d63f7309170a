-- The serial rule: which tree a batch leaves.
--
-- The Sets and Dels of a batch are passed through the tree, down to its leaves. Each node then becomes pieces, which
-- take its place in its parent, and loose rows, whose node is removed because it was left too small. `top` puts a root
-- over the pieces. The loose rows are then passed through that tree as Sets, by the same rule.
use Rattle.std.specs.Prelude.{ℕ, nat_lt, nat_le, Bool, true, false, if◌then◌else◌, List, [], ◌∷◌, ◌++◌, length, map, take, drop, filter}
use Rattle.std.proofs.Common.{zero, suc}
use Rattle.palm_base.specs.Key.{key}
use Rattle.palm_base.specs.Table.{row_key, after_all}
use Rattle.palm_base.specs.Cut.{cut}
use Rattle.palm_base.specs.Tree.{Subtree, Tree, rows_in}
use Rattle.palm_base.specs.History.{calls_of}
use Rattle.palm_base.specs.declared.bounds.TheConstants.{LEAST_LEAF_ROWS, MOST_LEAF_ROWS, LEAST_CHILDREN, MOST_CHILDREN}
use Rattle.palm_base.specs.declared.row.Row.{Row}
use Rattle.palm_base.specs.declared.call.Call.{Call}
use Rattle.palm_base.specs.declared.call.Call.TheVariants.{Set, Del, Get, Rate, List as Listing}
use Rattle.palm_base.specs.declared.call.Entry.{Entry}

-- ---- edits

-- An edit: a Set or a Del. So Del 44 is one, and Get 44 isn't.
abbrev pub is_edit : Call → Bool
is_edit (Set prefix rate) = true
is_edit (Del prefix) = true
is_edit (Get prefix) = false
is_edit (Rate number) = false
is_edit (Listing from to limit) = false

-- The key that an edit goes by. So Set 44 5 and Del 44 go by the key of 44.
abbrev pub edit_key : Call → ℕ
edit_key (Set prefix rate) = key prefix
edit_key (Del prefix) = key prefix
edit_key (Get prefix) = key prefix
edit_key (Rate number) = key number
edit_key (Listing from to limit) = key from

-- The edit goes left of a separator: its key is below it. So Del 44 goes left of 45.
abbrev pub goes_left : ℕ → Call → Bool
goes_left low edit = nat_lt (edit_key edit) low

-- The edit goes right of a separator: its key isn't below it. So Del 44 goes right of 44, and of 4.
abbrev pub goes_right : ℕ → Call → Bool
goes_right low edit = nat_le low (edit_key edit)

-- The Set that puts a row in. So that of 44 at 5 is Set 44 5.
abbrev pub set_of : Row → Call
set_of row = Set row.prefix row.rate

-- ---- nodes made of parts

-- The rows under these children, from left to right. So under the leaves of 1, 10 and of 2 they are 1, 10, 2.
abbrev pub rows_under : (n : ℕ) → List (ℕ × Subtree n) → List Row
rows_under n children = rows_in (suc n) children

-- The low of the first item, or 0 where there is none. So that of (3, a), (7, b) is 3.
abbrev pub first_low : {X : Type 0} → (X → ℕ) → List X → ℕ
first_low low [] = 0
first_low low (x ∷ xs) = low x

-- A node for each part, with its low: the first keeps this low, and a later one has that of its part's first item.
-- So leaves of the rows 1, 10 and 2, 20 with the low of 1 have the lows of 1 and 2.
abbrev pub with_lows : {X Y : Type 0} → (X → ℕ) → (List X → Y) → ℕ → List (List X) → List (ℕ × Y)
with_lows low node first [] = []
with_lows low node first (part ∷ parts) = (first, node part) ∷ map (λ later. (first_low low later, node later)) parts

-- The inner node over these children: the low of its first child is written 0. So over (3, a), (7, b) it is (0, a), (7, b).
abbrev pub node_over : {X : Type 0} → List (ℕ × X) → List (ℕ × X)
node_over [] = []
node_over (child ∷ children) = (0, child.1) ∷ children

-- The leaves that rows are cut into, at the low of the leaf that they stood in. So 17 rows make leaves of 9 and 8.
abbrev pub leaves_of : ℕ → List Row → List (ℕ × List Row)
leaves_of low rows = with_lows row_key (λ part. part) low (cut MOST_LEAF_ROWS rows)

-- The inner nodes that children are cut into, at the low of the node that they stood in. So 17 children make nodes of 9
-- and 8.
abbrev pub nodes_over : {X : Type 0} → ℕ → List (ℕ × X) → List (ℕ × List (ℕ × X))
nodes_over low children = with_lows (λ child. child.0) node_over low (cut MOST_CHILDREN children)

-- ---- the pass

-- What becomes of a node: the pieces in its place, each with its low, and the rows of what was removed.
-- So a leaf of 8 rows from which one is taken out has no piece, and 7 loose rows.
pub record Outcome (n : ℕ) : Type 0 where
  pub pieces : List (ℕ × Subtree n)
  pub loose : List Row

-- Two outcomes side by side, in order. So with the pieces p and q, r they have p, q, r.
abbrev pub joined : {n : ℕ} → Outcome n → Outcome n → Outcome n
joined left right = record { pieces = left.pieces ++ right.pieces; loose = left.loose ++ right.loose }

-- There are some items, and fewer than `least`. So 1 to 7 are too few for the least 8, and 0 aren't.
abbrev pub is_small : {X : Type 0} → ℕ → List X → Bool
is_small least [] = false
is_small least (x ∷ xs) = nat_lt (length (x ∷ xs)) least

-- What becomes of children: each edit goes to the last child whose low is at most the edit's key, where the low of the
-- first is written 0. `go` says what becomes of one child by the edits that go to it.
-- So of children with the lows 0, 19 and 30 the second gets the edits from 19 up to below 30.
abbrev pub below : (n : ℕ) → (ℕ → Subtree n → List Call → Outcome n) → List (ℕ × Subtree n) → List Call → Outcome n
below n go [] edits = record { pieces = []; loose = [] }
below n go (child ∷ []) edits = go child.0 child.1 edits
below n go (child ∷ next ∷ children) edits =
    joined (go child.0 child.1 (filter (goes_left next.0) edits)) (below n go (next ∷ children) (filter (goes_right next.0) edits))

-- What becomes of a leaf below the root that is left with these rows: where they are too few it is removed and they are
-- loose, and else they are cut. So 7 rows are loose, 17 make leaves of 9 and 8, and of none there is no piece.
abbrev pub leaf_outcome : ℕ → List Row → Outcome zero
leaf_outcome low rows =
    let leaves : Outcome zero = record { pieces = leaves_of low rows; loose = [] } in
    if is_small LEAST_LEAF_ROWS rows then record { pieces = []; loose = rows } else leaves

-- What becomes of an inner node below the root that is left with these children and loose rows: where the children are
-- too few it is removed and all rows under it are loose, and else they are cut. So of 7 children all rows are loose.
abbrev pub inner_outcome : (n : ℕ) → ℕ → Outcome n → Outcome (suc n)
inner_outcome n low left =
    let nodes : Outcome (suc n) = record { pieces = nodes_over low left.pieces; loose = left.loose } in
    if is_small LEAST_CHILDREN left.pieces then record { pieces = []; loose = rows_under n left.pieces ++ left.loose } else nodes

-- What becomes of a node below the root, with all that is under it, by the edits that go to it: a leaf's rows are edited
-- in the order of the edits, and an inner node has the pieces of its children in their place. The low is the bound that
-- the node has from above, and its first piece keeps it. So a leaf of 16 rows has by one Set more pieces of 9 and 8.
unfoldable pub pass : (n : ℕ) → ℕ → Subtree n → List Call → Outcome n
pass zero low rows edits = leaf_outcome low (after_all rows edits)
pass (suc n) low children edits = inner_outcome n low (below n (pass n) children edits)

-- ---- the root

-- The tree over pieces of one level: the empty leaf where there is none, the piece itself where there is one, one root
-- over 2 to MOST_CHILDREN, and else the tree over the inner nodes that they are cut into. Each such cut leaves fewer
-- pieces, so that as many levels as there are pieces suffice.
unfoldable pub top_in : ℕ → (n : ℕ) → List (ℕ × Subtree n) → Tree
top_in levels n [] = (zero, [])
top_in levels n (piece ∷ []) = (n, piece.1)
top_in zero n (piece ∷ next ∷ more) = (suc n, node_over (piece ∷ next ∷ more))
top_in (suc levels) n (piece ∷ next ∷ more) =
    let pieces = piece ∷ next ∷ more in
    let higher = top_in levels (suc n) (nodes_over 0 pieces) in
    if nat_le (length pieces) MOST_CHILDREN then (suc n, node_over pieces) else higher

-- The tree over pieces of one level. So over two leaves it is one root with two children.
unfoldable pub top : (n : ℕ) → List (ℕ × Subtree n) → Tree
top n pieces = top_in (length pieces) n pieces

-- The level of what a root is passed into: a leaf's own, and the one below an inner root. So under a root over leaves it
-- is 0, that of the leaves.
abbrev pub base_level : ℕ → ℕ
base_level zero = zero
base_level (suc n) = n

-- What becomes of what is under a root: a root leaf is cut, with nothing loose however few its rows, and an inner root's
-- children are passed. The root itself is made anew by `top`. So a root leaf left with 3 rows is one piece of 3.
abbrev pub base_pass : (n : ℕ) → Subtree n → List Call → Outcome (base_level n)
base_pass zero rows edits = record { pieces = leaves_of 0 (after_all rows edits); loose = [] }
base_pass (suc n) children edits = below n (pass n) children edits

-- ---- the batch

-- The tree after one pass, and the root over its pieces. Its loose rows aren't in it. So where a Del leaves 7 rows in the
-- second of two leaves, which has a first of 9, it is the leaf of the 9 rows.
abbrev pub passed_tree : Tree → List Call → Tree
passed_tree tree edits = top (base_level tree.0) (base_pass tree.0 tree.1 edits).pieces

-- The orphans: the rows that a pass leaves loose, in rising order. So of 2, 20 and then 1 they are 1, 2, 20.
abbrev pub orphans_of : Tree → List Call → List Row
orphans_of tree edits = after_all [] (map set_of (base_pass tree.0 tree.1 edits).loose)

-- The tree that a batch leaves: its edits are passed, and then the orphans in rising order as Sets.
-- So 17 Sets leave of the empty tree a root over leaves of 9 and 8. A Del of the last row then leaves 7 rows, so that
-- this leaf is removed and its rows go to the other, which is the root of 16 rows.
abbrev pub batch_tree : Tree → List Call → Tree
batch_tree tree calls =
    let edits = filter is_edit calls in
    passed_tree (passed_tree tree edits) (map set_of (orphans_of tree edits))

-- The tree that a history leaves, cut in batches of these lengths. The shape depends on the cutting, the rows don't: 34
-- Sets in one batch make leaves of 12, 11 and 11, and one by one leaves of 9, 9 and 16.
abbrev pub tree_after : Tree → List Entry → List ℕ → Tree
tree_after tree entries [] = tree
tree_after tree entries (n ∷ lengths) = tree_after (batch_tree tree (calls_of (take n entries))) (drop n entries) lengths
