use Rattle.std.proofs.Common.{◌≡◌, [], ◌+◌, ◌-◌, ◌≤◌, length}
use Rattle.palm_base.specs.History.{replies_to, table_after}
use Rattle.palm_base.specs.Lawful.{IsLawful}
use Rattle.palm_base.specs.Pass.{tree_after}
use Rattle.palm_base.specs.Tree.{rows_of}
use Rattle.palm_gen.specs.Generator.{history_from}
use Rattle.palm_gen.specs.Summary.{hits_in, sum_in}
use Rattle.palm_script.specs.Transcript.{cut_by}
use Rattle.palm_tree.specs.TreeValue.{tree_in}
use Rattle.palm_cli.specs.Costs.{batches_cost}
use Rattle.palm_cli.specs.Generated.{history_said}
use Rattle.palm_cli.specs.Tables.{table_left, tree_left, cost_left}
use Rattle.palm_cli.proofs.generate.run_calls.Given as goal

-- the calls that are left leave of the tree and of the table so far what all leave, and their replies make the counts whole
abbrev pub invariant-loop-at : goal.invariant-loop-at
invariant-loop-at g l =
    let most = l.settings.batch in
    let all = history_said l.settings in
    let left = history_from (l.settings.calls - l.at) l.state l.at in
    let lengths = cut_by most (length left) in
    let now = tree_in l.engine.tree in
    record {
      few : l.at ≤ l.settings.calls;
      tree : tree_after now left lengths ≡ tree_left most all;
      rows : table_after (rows_of now) left ≡ table_left all;
      lawful : IsLawful now;
      ticks : l.steps + batches_cost now left lengths ≤ l.fn.steps + cost_left most all;
      calls : l.tally.calls ≡ l.at;
      hits : l.tally.hits + hits_in (replies_to (rows_of now) left) ≡ hits_in (replies_to [] all);
      sum : l.tally.sum + sum_in (replies_to (rows_of now) left) ≡ sum_in (replies_to [] all);
    }

abbrev pub decreases-loop-at : goal.decreases-loop-at
decreases-loop-at g l = l.settings.calls - l.at
