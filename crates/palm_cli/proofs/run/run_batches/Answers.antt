use Rattle.std.proofs.Common.{◌<◌, length, arith, ◌∙◌}
use Rattle.palm_base.specs.Tree.{rows_of}
use Rattle.palm_tree.specs.TreeValue.{tree_in}
use Rattle.palm_script.specs.Transcript.{come_to}
use Rattle.palm_cli.proofs.Batches.{first_batch, batch_written, batch_begun, came_on, tree_more, rows_more, cost_more}
use Rattle.palm_cli.proofs.Fronts.{on_err}
use Rattle.palm_cli.proofs.run.run_batches.Goals as goal

pub returns-in_err-write_batch-clause-front : goal.returns-in_err-write_batch-clause-front
returns-in_err-write_batch-clause-front g c =
    let some : 0 < length c.loop-rest.rest.now = grind (arith, c.loop-rest-test.ensures, c.is_empty.ensures) in
    let first = first_batch c.requires.settings.some_batch some c.min.ensures c.split_at.ensures.front c.split_at.ensures.back in
    let at = come_to c.loop-rest.at (tree_in c.loop-rest.engine.tree) in
    on_err c.from_residual.result (batch_begun c.args.settings.now.dump at _ _ _ first c.loop-rest.invariant.written c.in_err-write_batch.ensures.front)

pub loop-rest-preserved : goal.loop-rest-preserved
loop-rest-preserved g c =
    let some : 0 < length c.loop-rest.rest.now = grind (arith, c.loop-rest-test.ensures, c.is_empty.ensures) in
    let first = first_batch c.requires.settings.some_batch some c.min.ensures c.split_at.ensures.front c.split_at.ensures.back in
    let now = tree_in c.loop-rest.engine.tree in
    let at = come_to c.loop-rest.at now in
    let ran = c.in_ok-write_batch.ensures in
    let came = came_on c.loop-rest.at now (tree_in c.write_batch.new.engine.tree) c.split_at.result.0.now ran.tree ran.rows in
    record {
      written = batch_written c.args.settings.now.dump at _ _ _ first came c.loop-rest.invariant.written ran.text;
      tree = tree_more now first ran.tree c.loop-rest.invariant.tree;
      rows = rows_more (rows_of now) first ran.rows c.loop-rest.invariant.rows;
      lawful = c.write_batch.ensures.lawful;
      ticks = omega (arith, cost_more now first ran.tree, ran.ticks, c.loop-rest.invariant.ticks);
      most = c.loop-rest.invariant.most;
      place = omega (arith, c.loop-rest.invariant.place, c.split_at.ensures.front_len, c.split_at.ensures.back_len);
      faults = ran.kept ∙ c.loop-rest.invariant.faults;
    }
