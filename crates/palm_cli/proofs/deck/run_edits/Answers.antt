use Rattle.std.proofs.Common.{◌<◌, length, arith}
use Rattle.palm_base.specs.Tree.{rows_of}
use Rattle.palm_tree.specs.TreeValue.{tree_in}
use Rattle.palm_cli.proofs.Batches.{first_batch, tree_more, rows_more, cost_more}
use Rattle.palm_cli.proofs.deck.run_edits.Goals as goal

pub loop-rest-preserved : goal.loop-rest-preserved
loop-rest-preserved g c =
    let some : 0 < length c.loop-rest.rest.now = grind (arith, c.loop-rest-test.ensures, c.is_empty.ensures) in
    let first = first_batch c.requires.settings.some_batch some c.min.ensures c.split_at.ensures.front c.split_at.ensures.back in
    let now = tree_in c.loop-rest.engine.tree in
    let ran = c.in_ok-answer_batch.ensures in
    record {
      tree = tree_more now first ran.tree c.loop-rest.invariant.tree;
      rows = rows_more (rows_of now) first ran.rows c.loop-rest.invariant.rows;
      lawful = c.answer_batch.ensures.lawful;
      ticks = omega (arith, cost_more now first ran.tree, c.answer_batch.ensures.ticks, c.loop-rest.invariant.ticks);
      most = c.loop-rest.invariant.most;
      place = omega (arith, c.loop-rest.invariant.place, c.split_at.ensures.front_len, c.split_at.ensures.back_len);
    }
