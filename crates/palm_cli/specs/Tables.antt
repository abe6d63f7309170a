-- What a history leaves of the empty table and of the empty tree.
use Rattle.std.specs.Prelude.{ℕ, List, [], length}
use Rattle.std.proofs.Common.{zero}
use Rattle.palm_base.specs.History.{table_after}
use Rattle.palm_base.specs.Pass.{tree_after}
use Rattle.palm_base.specs.Tree.{Tree}
use Rattle.palm_base.specs.declared.call.Entry.{Entry}
use Rattle.palm_base.specs.declared.row.Row.{Row}
use Rattle.palm_script.specs.Transcript.{cut_by}
use Rattle.palm_cli.specs.Costs.{batches_cost}

-- The table. So Set 44 5, Set 45 9, Del 44 leave the row of 45 alone.
abbrev pub table_left : List Entry → List Row
table_left history = table_after [] history

-- The tree, where the history is run in batches of `most` calls. So that of one Set is a leaf of one row.
abbrev pub tree_left : ℕ → List Entry → Tree
tree_left most history = tree_after (zero, []) history (cut_by most (length history))

-- How many steps these batches may take. So those of Get 44, Rate 442 in one batch may take 24.
abbrev pub cost_left : ℕ → List Entry → ℕ
cost_left most history = batches_cost (zero, []) history (cut_by most (length history))
