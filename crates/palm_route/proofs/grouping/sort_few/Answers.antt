use Rattle.std.proofs.Common.{rules}
use Rattle.std.specs.List.Sorted.{IsSortedByKeyClosure}
use Rattle.std.specs.Ordering.{nat_cmp}
use Rattle.std.proofs.lemmas.Result.{on_ok_weaker}
use Rattle.std.proofs.lemmas.List.Sorted.{answers_always}
use Rattle.palm_route.proofs.grouping.sort_few.Goals as goal

pub returns-clause-sorted : goal.returns-clause-sorted
returns-clause-sorted c =
    on_ok_weaker {P = IsSortedByKeyClosure _ nat_cmp _ c.sort_by_key.new.self} c.sort_by_key.result
    (λ sorted. sorted (λ one. one.low) (answers_always _ _ _ (λ f a r g h. search rules))) c.sort_by_key.ensures.sorted

pub returns-clause-stable : goal.returns-clause-stable
returns-clause-stable c = c.sort_by_key.ensures.stable (λ one. one.low) (answers_always _ _ _ (λ f a r g h. search rules))
