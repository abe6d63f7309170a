use Rattle.std.proofs.Common.{◌≡◌}
use Rattle.std.specs.List.{AllByRecursion}
use Rattle.palm_batch.specs.Replies.{replies_joined, FitsEntry}
use Rattle.palm_batch.proofs.replies.join_all.Given as goal

-- the replies are those that the answers so far make, and the answers that are left fit
abbrev pub invariant-loop-answer : goal.invariant-loop-answer
invariant-loop-answer l = record {
  replies : l.replies ≡ replies_joined 0 l.batch l.yielded;
  fit : AllByRecursion (FitsEntry l.batch) l.answer-iterator.rest.items;
}
