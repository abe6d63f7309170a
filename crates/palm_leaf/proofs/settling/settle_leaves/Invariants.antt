use Rattle.std.proofs.Common.{◌≡◌, ◌≤◌, ◌+◌, ◌++◌, length}
use Rattle.std.specs.Prelude.{sum_by}
use Rattle.std.specs.Vec.Iter.{into_iter_items}
use Rattle.palm_arena.specs.ArenaState.{NoneLent}
use Rattle.palm_leaf.proofs.SettleSteps.{SettleSoFar}
use Rattle.palm_leaf.proofs.settling.settle_leaves.Given as goal

-- the leaves before this one are settled
abbrev pub invariant-loop-leaf : goal.invariant-loop-leaf
invariant-loop-leaf g l = record {
  able : (goal.iterator-loop-leaf g).can_next l.leaf-iterator;
  finite : (goal.iterator-loop-leaf g).is_finite l.leaf-iterator;
  whole : l.yielded ++ into_iter_items l.leaf-iterator ≡ l.fn.done.items;
  far : SettleSoFar l.fn.arena.places l.arena.places l.yielded l.gathered;
  begun : l.arena.begun ≡ l.fn.arena.begun;
  none_lent : NoneLent l.arena.places;
  ticks : l.steps + sum_by (λ done. length done.plan.later.items) (into_iter_items l.leaf-iterator) ≤ l.fn.steps + sum_by (λ done. length done.plan.later.items) l.fn.done.items;
  moved : length l.arena.moved + l.fn.steps ≤ length l.fn.arena.moved + l.steps;
}
