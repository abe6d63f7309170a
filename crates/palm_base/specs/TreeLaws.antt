-- The laws of the serial rule, which functions of the module of laws carry.
use Rattle.std.specs.Prelude.{◌≡◌, ℕ, List, [], map}
use Rattle.palm_base.specs.Table.{after_all}
use Rattle.palm_base.specs.Tree.{Tree, rows_of}
use Rattle.palm_base.specs.History.{table_after, IsCutting}
use Rattle.palm_base.specs.Pass.{set_of, base_pass, batch_tree, tree_after}
use Rattle.palm_base.specs.Lawful.{IsLawful}
use Rattle.palm_base.specs.declared.row.Row.{Row}
use Rattle.palm_base.specs.declared.call.Call.{Call}
use Rattle.palm_base.specs.declared.call.Entry.{Entry}

-- A batch's tree has the rows that its calls leave, one after another. So what passes, removed nodes and orphans come to
-- is no more than each call's own meaning.
abbrev pub BatchesKeepRows : Type 0
BatchesKeepRows = (tree : Tree) (calls : List Call) → IsLawful tree → rows_of (batch_tree tree calls) ≡ after_all (rows_of tree) calls

-- A batch leaves a lawful tree. So where a Set makes 17 rows of a leaf, two leaves of 9 and 8 stand in its place.
abbrev pub BatchesKeepLaw : Type 0
BatchesKeepLaw = (tree : Tree) (calls : List Call) → IsLawful tree → IsLawful (batch_tree tree calls)

-- A pass of Sets leaves nothing loose. So the orphans of a batch are all put back by one more pass.
abbrev pub SecondPassIsWhole : Type 0
SecondPassIsWhole = (tree : Tree) (rows : List Row) → IsLawful tree → (base_pass tree.0 tree.1 (map set_of rows)).loose ≡ []

-- However a history is cut, its tree has the rows that its calls leave. So Set 44 5, Set 45 9, Del 44 leave the row of 45, in
-- one batch and in three.
abbrev pub CuttingsKeepRows : Type 0
CuttingsKeepRows =
    (tree : Tree) (entries : List Entry) (lengths : List ℕ) → IsLawful tree → IsCutting entries lengths
    → rows_of (tree_after tree entries lengths) ≡ table_after (rows_of tree) entries

-- And it is lawful. So the same calls leave a leaf of one row in either way.
abbrev pub CuttingsKeepLaw : Type 0
CuttingsKeepLaw = (tree : Tree) (entries : List Entry) (lengths : List ℕ) → IsLawful tree → IsLawful (tree_after tree entries lengths)
