-- How many steps a batch may take over a tree, by the tree's value alone, so that costs add up over the batches of a run.
use Rattle.std.specs.Prelude.{ℕ, ◌+◌, ◌*◌, max, List, length}
use Rattle.palm_base.specs.History.{calls_of}
use Rattle.palm_base.specs.Pass.{orphans_of, batch_tree}
use Rattle.palm_base.specs.Tree.{Tree, levels_of}
use Rattle.palm_base.specs.declared.call.Entry.{Entry}
use Rattle.palm_route.specs.Counts.{parts_on}
use Rattle.palm_batch.specs.Passing.{edits_in}

-- Two steps for each part and each orphan, on each level and on two more. So 3 parts and 7 orphans over 2 levels may take 80.
abbrev pub cost_of : ℕ → ℕ → ℕ → ℕ
cost_of parts orphans levels = 2 * (parts + orphans) * (levels + 2)

-- The levels of a tree before or after a batch, whichever are more. So where 17 Sets make of the empty leaf a root over two
-- leaves, they are 2.
abbrev pub levels_over : Tree → List Entry → ℕ
levels_over tree batch = max (levels_of tree) (levels_of (batch_tree tree (calls_of batch)))

-- How many steps a batch may take over a tree, at whatever ids the tree's nodes stand.
-- So Get 44, Rate 442 over a leaf alone, which stays a leaf, have 4 parts and no orphans, and may take 24.
abbrev pub cost_on : Tree → List Entry → ℕ
cost_on tree batch = cost_of (parts_on tree batch) (length (orphans_of tree (edits_in batch))) (levels_over tree batch)
