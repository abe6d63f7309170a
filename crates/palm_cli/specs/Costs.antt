-- How many steps the batches of a run may take.
use Rattle.std.specs.Prelude.{ℕ, ◌+◌, take, drop, List, [], ◌∷◌}
use Rattle.std.proofs.Common.{zero}
use Rattle.palm_base.specs.History.{calls_of}
use Rattle.palm_base.specs.Pass.{batch_tree, tree_after}
use Rattle.palm_base.specs.Tree.{Tree}
use Rattle.palm_base.specs.declared.call.Entry.{Entry}
use Rattle.palm_batch.specs.Costs.{cost_on}
use Rattle.palm_script.specs.Transcript.{Section}

-- Those of a history that is cut in batches of these lengths: each batch's on the tree that those before leave. So Get 44 and
-- Rate 442 in two batches may take 6 and 18 over the empty tree, which is 24.
abbrev pub batches_cost : Tree → List Entry → List ℕ → ℕ
batches_cost tree entries [] = 0
batches_cost tree entries (k ∷ lengths) =
    cost_on tree (take k entries) + batches_cost (batch_tree tree (calls_of (take k entries))) (drop k entries) lengths

-- Those of sections, one after another. So a section of Get 44 and one of Rate 442 may take 24 over the empty tree.
abbrev pub sections_cost : Tree → List Section → ℕ
sections_cost tree [] = 0
sections_cost tree (section ∷ sections) =
    batches_cost tree section.history section.cutting + sections_cost (tree_after tree section.history section.cutting) sections

-- Those of a run, from the empty tree on. So Get 44, Rate 442 in one batch may take 24.
abbrev pub run_cost : List Section → ℕ
run_cost run = sections_cost (zero, []) run
