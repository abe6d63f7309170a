use Rattle.std.proofs.Common.{◌∙◌, ap, arith, length, sym, append_assoc, [], ◌∷◌, ◌++◌}
use Rattle.std.specs.Prelude.{sum_by}
use Rattle.std.specs.Vec.Iter.{into_iter_items}
use Rattle.std.proofs.lemmas.List.Sums.{sum_by-cons}
use Rattle.palm_arena.specs.Reads.{map_of}
use Rattle.palm_leaf.specs.Answers.{rows_at}
use Rattle.palm_leaf.specs.declared.lending.LeafDone.{LeafDone}
use Rattle.palm_leaf.proofs.SettleSteps.{next_done, one_settled}
use Rattle.palm_leaf.proofs.settling.settle_leaves.Goals as goal

pub settle-requires-clause-leaf : goal.settle-requires-clause-leaf
settle-requires-clause-leaf g c =
    let loop = c.loop-leaf in
    let are = ap (λ left. loop.yielded ++ left) (sym c.in-Some.ensures.steps.0) ∙ loop.invariant.whole in (
      rows_at (map_of c.args.arena.now.places) c.in-Some.leaf.id,
      next_done c.args.arena.now.places loop.arena.places c.args.done.items loop.yielded (into_iter_items c.next.new.self) c.in-Some.leaf loop.gathered c.requires.leaves.0 are loop.invariant.far c.requires.leaves.1,
    )

pub loop-leaf-preserved : goal.loop-leaf-preserved
loop-leaf-preserved g c =
    let loop = c.loop-leaf in
    let far = loop.invariant in
    let left = into_iter_items c.next.new.self in
    let are = ap (λ left. loop.yielded ++ left) (sym c.in-Some.ensures.steps.0) ∙ far.whole in
    let f : LeafDone → _ = λ (done : LeafDone). length done.plan.later.items in
    let sums = ap (sum_by f) c.in-Some.ensures.steps.0 ∙ sum_by-cons f c.in-Some.leaf left in
    record {
      able = tt;
      finite = tt;
      whole = append_assoc loop.yielded (c.in-Some.leaf ∷ []) left ∙ are;
      far =
          one_settled c.args.arena.now.places loop.arena.places c.settle.new.arena.places c.args.done.items loop.yielded left c.in-Some.leaf loop.gathered c.settle.new.gathered c.requires.leaves.0 are far.far c.requires.leaves.1
          c.in_ok-settle.ensures.end;
      begun = c.settle.ensures.begun ∙ far.begun;
      none_lent = c.settle.ensures.none_lent;
      ticks = omega (arith, far.ticks, sums, c.settle.ensures.ticks);
      moved = omega (arith, far.moved, c.settle.ensures.moved);
    }
