use Rattle.std.proofs.Common.{[], ◌++◌, suc, drop, ap, ◌∙◌, get_or, arith}
use Rattle.std.specs.List.{flat_map}
use Rattle.palm_node.specs.declared.change.Removed.{Removed}
use Rattle.palm_arena.specs.Reads.{map_of}
use Rattle.palm_arena.specs.Standing.{Kept, kept_cells}
use Rattle.palm_root.proofs.Sweeping.{removed_at, swept_next, swept_more, swept_all}
use Rattle.palm_root.proofs.removal.sweep_all.Goals as goal

pub overflow_sub-node : goal.overflow_sub-node
overflow_sub-node c =
    let at = removed_at c.args.removed.now c.requires.stands.0 c.loop-node.node-index (record { level = 0; id = record { place = 0 } }) (record { below = 0; place = (record { place = 0 }, []) }) c.requires.stands.2 c.loop-node-test.true in
    let level = ap (λ (r : Removed). r.level) at.1 in
    omega (arith, level)

pub sweep-requires-clause-stands : goal.sweep-requires-clause-stands
sweep-requires-clause-stands c =
    let kept = c.requires.stands.0 in
    let others = c.requires.stands.1 in
    let i = c.loop-node.node-index in
    let some : Kept = record { below = 0; place = (record { place = 0 }, []) } in
    let at = removed_at c.args.removed.now kept i (record { level = 0; id = record { place = 0 } }) some c.requires.stands.2 c.loop-node-test.true in (
      get_or kept i some,
      flat_map kept_cells (drop (suc i) kept) ++ others,
      swept_next (map_of c.loop-node.arena.places) c.args.rows.now.items c.loop-node.rows.items kept others i _ some at.0 at.1 (c.loop-node.invariant.swept kept others c.requires.stands.2 c.requires.stands.3),
    )

pub loop-node-preserved : goal.loop-node-preserved
loop-node-preserved c = record {
  swept = λ kept others is stands.
      let i = c.loop-node.node-index in
      let some : Kept = record { below = 0; place = (record { place = 0 }, []) } in
      let at = removed_at c.args.removed.now kept i (record { level = 0; id = record { place = 0 } }) some is c.loop-node-test.true in
      let swept = c.loop-node.invariant.swept kept others is stands in
      swept_more (map_of c.sweep.new.arena.places) c.args.rows.now.items c.loop-node.rows.items c.sweep.new.rows.items kept others i some at.0 swept.rows
      (c.in_ok-sweep.ensures.swept (get_or kept i some) (flat_map kept_cells (drop (suc i) kept) ++ others) (swept_next (map_of c.loop-node.arena.places) c.args.rows.now.items c.loop-node.rows.items kept others i _ some at.0 at.1 swept));
  begun = c.sweep.ensures.begun ∙ c.loop-node.invariant.begun;
  moved = c.sweep.ensures.moved ∙ c.loop-node.invariant.moved;
  none_lent = c.sweep.ensures.none_lent;
}

pub returns-clause-swept : goal.returns-clause-swept
returns-clause-swept c kept others is stands =
    swept_all (map_of c.loop-node.arena.places) c.args.rows.now.items c.loop-node.rows.items c.args.removed.now kept others c.loop-node.node-index is (omega (arith, c.loop-node-test.false, c.loop-node.auto.node-index-end)) (c.loop-node.invariant.swept kept others is stands)
