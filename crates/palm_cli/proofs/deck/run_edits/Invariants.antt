use Rattle.std.proofs.Common.{◌≡◌, ◌+◌, ◌≤◌, length}
use Rattle.palm_base.specs.History.{table_after}
use Rattle.palm_base.specs.Lawful.{IsLawful}
use Rattle.palm_base.specs.Pass.{tree_after}
use Rattle.palm_base.specs.Tree.{rows_of}
use Rattle.palm_script.specs.Transcript.{cut_by}
use Rattle.palm_tree.specs.TreeValue.{tree_in}
use Rattle.palm_cli.specs.Costs.{batches_cost}
use Rattle.palm_cli.proofs.deck.run_edits.Given as goal

-- what is left leaves of the tree and of the table so far what all edits leave of the first
abbrev pub invariant-loop-rest : goal.invariant-loop-rest
invariant-loop-rest g l =
    let lengths = cut_by l.settings.batch (length l.rest) in
    let all = cut_by l.settings.batch (length l.edits) in
    let now = tree_in l.engine.tree in
    let first = tree_in l.fn.engine.tree in
    record {
      tree : tree_after now l.rest lengths ≡ tree_after first l.edits all;
      rows : table_after (rows_of now) l.rest ≡ table_after (rows_of first) l.edits;
      lawful : IsLawful now;
      ticks : l.steps + batches_cost now l.rest lengths ≤ l.fn.steps + batches_cost first l.edits all;
      most : l.most ≡ l.settings.batch;
      place : l.at + length l.rest ≡ length l.edits;
    }

abbrev pub decreases-loop-rest : goal.decreases-loop-rest
decreases-loop-rest g l = length l.rest
