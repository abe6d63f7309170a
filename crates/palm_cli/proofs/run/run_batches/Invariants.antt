use Rattle.std.proofs.Common.{◌≡◌, ◌+◌, ◌≤◌, length}
use Rattle.palm_base.specs.History.{table_after}
use Rattle.palm_base.specs.Lawful.{IsLawful}
use Rattle.palm_base.specs.Pass.{tree_after}
use Rattle.palm_base.specs.Tree.{rows_of}
use Rattle.palm_script.specs.Transcript.{come_to, batches_text, cut_by}
use Rattle.palm_tree.specs.TreeValue.{tree_in}
use Rattle.palm_cli.specs.Costs.{batches_cost}
use Rattle.palm_cli.proofs.Fronts.{AppendsBut}
use Rattle.palm_cli.proofs.run.run_batches.Given as goal

-- what was written so far, with the text of what is left, is the whole text, and what is left leaves the whole tree
abbrev pub invariant-loop-rest : goal.invariant-loop-rest
invariant-loop-rest g l =
    let taken = g.O.Sink.taken in
    let faults = g.O.Sink.faults in
    let dump = l.settings.dump in
    let lengths = cut_by l.settings.batch (length l.rest) in
    let all = cut_by l.settings.batch (length l.calls) in
    let now = tree_in l.engine.tree in
    let first = tree_in l.fn.engine.tree in
    record {
      written : AppendsBut (taken l.fn.out) (taken l.out) (batches_text dump (come_to l.at now) l.rest lengths) (batches_text dump (come_to l.n first) l.calls all);
      tree : tree_after now l.rest lengths ≡ tree_after first l.calls all;
      rows : table_after (rows_of now) l.rest ≡ table_after (rows_of first) l.calls;
      lawful : IsLawful now;
      ticks : l.steps + batches_cost now l.rest lengths ≤ l.fn.steps + batches_cost first l.calls all;
      most : l.most ≡ l.settings.batch;
      place : l.at + length l.rest ≡ l.n + length l.calls;
      faults : faults l.out ≡ faults l.fn.out;
    }

abbrev pub decreases-loop-rest : goal.decreases-loop-rest
decreases-loop-rest g l = length l.rest
