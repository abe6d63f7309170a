use Rattle.std.proofs.Common.{◌≡◌, ◌++◌, map}
use Rattle.palm_leaf.specs.Asked.{answered}
use Rattle.palm_leaf.proofs.settling.append_answers.Given as goal

abbrev pub invariant-loop-asked : goal.invariant-loop-asked
invariant-loop-asked l = record {
  able : (goal.iterator-loop-asked).can_next l.asked-iterator;
  finite : (goal.iterator-loop-asked).is_finite l.asked-iterator;
  answers : l.answers ≡ l.fn.answers ++ map answered l.yielded;
}
