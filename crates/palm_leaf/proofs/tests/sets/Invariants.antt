use Rattle.std.specs.List.{AllByRecursion}
use Rattle.palm_leaf.specs.Routed.{HasKey}
use Rattle.palm_leaf.proofs.tests.sets.Given as goal

abbrev pub invariant-loop-prefix : goal.invariant-loop-prefix
invariant-loop-prefix g l = record {
  able : (goal.iterator-loop-prefix g).can_next l.prefix-iterator;
  finite : (goal.iterator-loop-prefix g).is_finite l.prefix-iterator;
  keys : AllByRecursion HasKey l.parts;
}
