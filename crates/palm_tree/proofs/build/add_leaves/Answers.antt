use Rattle.std.proofs.Common.{◌≡◌, ◌≤◌, take, length, subst}
use Rattle.palm_base.specs.Table.{row_key}
use Rattle.palm_base.specs.Cut.{piece_count}
use Rattle.palm_base.specs.Pass.{first_low}
use Rattle.palm_base.specs.declared.bounds.TheConstants.{MOST_LEAF_ROWS}
use Rattle.palm_tree.proofs.AddedLeaves.{leaves_first, leaves_next, leaves_all, leaf_table}
use Rattle.palm_base.proofs.CutSteps.{some_left, own_low}
use Rattle.palm_tree.proofs.build.add_leaves.Goals as goal

pub loop-i-init : goal.loop-i-init
loop-i-init g c = record {
  far = leaves_first c.args.rows.now c.args.arena.now.places c.new-leaves.result c.requires.table c.requires.empty c.new-leaves.ensures;
  under_way = c.requires.under_way;
}

pub from_rows-leaf-requires-clause-table : goal.from_rows-leaf-requires-clause-table
from_rows-leaf-requires-clause-table g c = leaf_table _ _ _ _ _ _ _ c.loop-i.invariant.far c.split_at.ensures.front

pub loop-i-preserved : goal.loop-i-preserved
loop-i-preserved g c =
    let low = own_low c.next_low-low.result c.first_key.result (first_low row_key c.from_rows-leaf.result) (length c.loop-i.leaves) c.next_low-low.ensures c.first_key.ensures.key in
    let part : c.from_rows-leaf.result ≡ take c.piece_size.result c.loop-i.rest.now = rw c.from_rows-leaf.ensures c.split_at.ensures.front in
    let next = leaves_next c.args.rows.now c.loop-i.i c.loop-i.arena.places c.loop-i.rest.now c.from_rows-leaf.result c.loop-i.leaves c.piece_size.result c.next_low-low.result c.in_ok-id.id
    c.loop-i.invariant.far (some_left c.loop-i.i c.pieces-i-end.result (piece_count MOST_LEAF_ROWS (length c.args.rows.now)) c.loop-i-test.true c.pieces-i-end.ensures) c.piece_size.ensures
    part low c.first_key.ensures.leaf c.in_ok-id.ensures.vacant in
    record {
      far = rw (c.split_at.ensures.back, c.in_ok-id.ensures.ok, c.in_ok-push.ensures.ok) next;
      under_way = rw c.in_ok-id.ensures.ok c.loop-i.invariant.under_way;
    }

pub returns-clause-level : goal.returns-clause-level
returns-clause-level g c =
    leaves_all c.args.rows.now c.loop-i.i c.loop-i.arena.places c.loop-i.rest.now c.loop-i.leaves c.loop-i.invariant.far (subst (λ n. n ≤ c.loop-i.i) c.pieces-i-end.ensures c.loop-i-test.false)
