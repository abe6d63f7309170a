-- Further laws of tables and trees, which the functions of the module of tree laws carry.
use Rattle.std.specs.Prelude.{◌≡◌, ℕ, ◌+◌, ◌*◌, ◌^◌, ◌≤◌, List, [], length, map}
use Rattle.std.specs.List.{AllByRecursion}
use Rattle.std.specs.List.Sorted.{IsPermutation, IsNonDecreasingBy}
use Rattle.palm_base.specs.Prefix.{IsPrefix}
use Rattle.palm_base.specs.Table.{row_key, IsTable, after_all, best_for}
use Rattle.palm_base.specs.Fronts.{first_front}
use Rattle.palm_base.specs.Tree.{Subtree, Tree, levels_of, rows_of}
use Rattle.palm_base.specs.Pass.{set_of, Outcome, below, base_pass, orphans_of, batch_tree, tree_after}
use Rattle.palm_base.specs.Lawful.{IsLawful}
use Rattle.palm_base.specs.Literal.{below_by_place, base_pass_by_place, LowsRise, IsLawfulLiterally}
use Rattle.palm_base.specs.Lows.{PrefixesHold, SetsPrefix, LowsAreKeys}
use Rattle.palm_base.specs.declared.bounds.TheConstants.{LEAST_LEAF_ROWS, LEAST_CHILDREN, MOST_LEVELS}
use Rattle.palm_base.specs.declared.row.Row.{Row}
use Rattle.palm_base.specs.declared.call.Call.{Call}
use Rattle.palm_base.specs.declared.call.Entry.{Entry}

-- The row of the longest prefix that begins a number is the one that the fronts of the number find, from the whole
-- number down. So for 442 the fronts 442, 44 and 4 are tried.
abbrev pub FrontsFindTheBest : Type 0
FrontsFindTheBest =
    (rows : List Row) (number : List ℕ) → PrefixesHold rows → IsPrefix number
    → best_for number rows ≡ first_front (length number) number rows

-- A batch whose Sets are of prefixes keeps the lows of a tree keys, so that each can be printed as a prefix.
-- So 17 Sets leave of the empty tree a root over two leaves, and the low of the second is the key of its first row.
abbrev pub BatchesKeepLows : Type 0
BatchesKeepLows = (tree : Tree) (calls : List Call) → LowsAreKeys tree → AllByRecursion SetsPrefix calls → LowsAreKeys (batch_tree tree calls)

-- However a history is cut, its tree keeps lows keys where its Sets are of prefixes. So 34 Sets do, in one batch or one by
-- one, though they come to other lows.
abbrev pub CuttingsKeepLows : Type 0
CuttingsKeepLows =
    (tree : Tree) (entries : List Entry) (lengths : List ℕ) → LowsAreKeys tree → AllByRecursion (λ entry. SetsPrefix entry.call) entries
    → LowsAreKeys (tree_after tree entries lengths)

-- The same rows in strictly rising order, by whatever sort, are what their Sets leave of the empty table.
-- So the Sets of 2, 10 and 1 leave 1, 10 and 2.
abbrev pub SortedRowsAreTheTable : Type 0
SortedRowsAreTheTable = (rows sorted : List Row) → IsTable sorted → IsPermutation rows sorted → after_all [] (map set_of rows) ≡ sorted

-- So the loose rows of a pass through a lawful tree, sorted by key in whatever way, are the orphans: no two have one key,
-- and a stable sort and another come to the same.
abbrev pub AnySortMakesTheOrphans : Type 0
AnySortMakesTheOrphans =
    (tree : Tree) (edits : List Call) (sorted : List Row) → IsLawful tree → IsPermutation (base_pass tree.0 tree.1 edits).loose sorted
    → IsNonDecreasingBy row_key sorted → orphans_of tree edits ≡ sorted

-- A lawful tree of many levels has many rows: one of two levels has those of two least leaves, and each level more makes
-- them LEAST_CHILDREN times as many. So with leaves of 8 rows and nodes of 8 children one of three levels has 128 or more.
abbrev pub HighTreesHoldMany : Type 0
HighTreesHoldMany =
    (tree : Tree) (n : ℕ) → IsLawful tree → levels_of tree ≡ n + 2 → 2 * (LEAST_LEAF_ROWS * LEAST_CHILDREN ^ n) ≤ length (rows_of tree)

-- A lawful tree whose rows go by prefixes has at most MOST_LEVELS levels. So with the bounds 8 it has at most 17: one of 18
-- would have at least 2 ^ 52 rows, and there are fewer prefixes.
abbrev pub LawfulTreesAreLow : Type 0
LawfulTreesAreLow = (tree : Tree) → IsLawful tree → PrefixesHold (rows_of tree) → levels_of tree ≤ MOST_LEVELS

-- Splitting the edits at each next low sends each to the last child whose low is at most its key, where the lows rise.
-- They do in each inner node of a lawful tree. So with the lows 0, 19 and 28 a Set at 20 goes to the second child.
abbrev pub EditsGoByPlace : Type 0
EditsGoByPlace =
    (n : ℕ) (go : ℕ → Subtree n → List Call → Outcome n) (children : List (ℕ × Subtree n)) (edits : List Call) → LowsRise children
    → below n go children edits ≡ below_by_place n go children edits

-- So a pass through a lawful tree sends each edit, at each inner node, to the last child whose low is at most its key, and
-- what becomes of the tree by either rule is the same.
abbrev pub PassesGoByPlace : Type 0
PassesGoByPlace = (tree : Tree) (edits : List Call) → IsLawful tree → base_pass tree.0 tree.1 edits ≡ base_pass_by_place tree.0 tree.1 edits

-- A tree is lawful exactly where it is so literally. So bounds between which its keys rise need not be named.
abbrev pub LawIsLiteral : Type 0
LawIsLiteral = (tree : Tree) → (IsLawful tree → IsLawfulLiterally tree) × (IsLawfulLiterally tree → IsLawful tree)
