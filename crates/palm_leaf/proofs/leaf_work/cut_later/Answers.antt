use Rattle.std.proofs.Common.{◌∙◌, sym, ap, arith, length, refl}
use Rattle.palm_base.specs.Table.{row_key}
use Rattle.palm_base.specs.Pass.{first_low}
use Rattle.palm_base.specs.Cut.{piece_count}
use Rattle.palm_base.specs.declared.bounds.TheConstants.{MOST_LEAF_ROWS}
use Rattle.palm_base.proofs.CutSteps.{some_left}
use Rattle.palm_base.proofs.Tables.{table_take}
use Rattle.palm_leaf.proofs.LaterLeaves.{none_made, one_made, next_is_few, first_key, all_made}
use Rattle.palm_leaf.proofs.leaf_work.cut_later.Goals as goal

pub loop-i-init : goal.loop-i-init
loop-i-init c = record {
  far = none_made c.args.rows.now _ _ c.piece_size.result c.requires.some c.requires.table c.piece_size.ensures c.split_at.ensures.back c.requires.empty;
  len = omega (arith, c.args.later.now.ok, ap length c.requires.empty);
  capacity = refl;
}

pub from_rows-requires-clause-few : goal.from_rows-requires-clause-few
from_rows-requires-clause-few c =
    (next_is_few c.args.rows.now c.loop-i.i c.loop-i.rest.now _ _ c.piece_size-in-loop-i.result (some_left c.loop-i.i c.pieces-i-end.result (piece_count MOST_LEAF_ROWS (length c.args.rows.now)) c.loop-i-test.true c.pieces-i-end.ensures)
    c.piece_size-in-loop-i.ensures c.split_at-in-loop-i.ensures.front c.loop-i.invariant.far).1

pub from_rows-requires-clause-table : goal.from_rows-requires-clause-table
from_rows-requires-clause-table c = rw c.split_at-in-loop-i.ensures.front (table_take _ c.loop-i.rest.now c.loop-i.invariant.far.table)

pub loop-i-preserved : goal.loop-i-preserved
loop-i-preserved c =
    let less = some_left c.loop-i.i c.pieces-i-end.result (piece_count MOST_LEAF_ROWS (length c.args.rows.now)) c.loop-i-test.true c.pieces-i-end.ensures in
    let few = next_is_few c.args.rows.now c.loop-i.i c.loop-i.rest.now c.split_at-in-loop-i.result.0.now c.loop-i.later.items c.piece_size-in-loop-i.result less c.piece_size-in-loop-i.ensures c.split_at-in-loop-i.ensures.front c.loop-i.invariant.far in
    let low = first_key c.split_at-in-loop-i.result.0.now _ c.key.result few.0 c.key.ensures.key in
    record {
      far = rw c.push_reserved.ensures.items (one_made c.args.rows.now c.loop-i.i c.loop-i.rest.now c.split_at-in-loop-i.result.1.now c.loop-i.later.items (record { low = c.key.result; leaf = c.from_rows.result }) c.piece_size-in-loop-i.result less
          c.piece_size-in-loop-i.ensures (c.from_rows.ensures ∙ c.split_at-in-loop-i.ensures.front) c.split_at-in-loop-i.ensures.back (low ∙ ap (first_low row_key) (sym c.from_rows.ensures)) c.loop-i.invariant.far);
      len = omega (arith, c.push_reserved.ensures.len, c.loop-i.invariant.len);
      capacity = c.push_reserved.ensures.capacity ∙ c.loop-i.invariant.capacity;
    }

pub returns-clause-pieces : goal.returns-clause-pieces
returns-clause-pieces c = all_made c.args.rows.now c.loop-i.i c.loop-i.rest.now c.loop-i.later.items c.requires.some (omega (arith, c.loop-i-test.false, c.pieces-i-end.ensures)) c.loop-i.invariant.far
