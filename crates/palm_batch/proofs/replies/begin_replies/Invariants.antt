use Rattle.std.proofs.Common.{◌≡◌, ◌≤◌, map, take, length, vec_len, vec_capacity}
use Rattle.std.specs.List.{AllByRecursion}
use Rattle.palm_base.specs.declared.call.Entry.{Entry}
use Rattle.palm_batch.specs.Replies.{unanswered, RatesPrefix}
use Rattle.palm_batch.proofs.replies.begin_replies.Given as goal

-- there is a reply for each entry so far, and room for the others
abbrev pub invariant-loop-entry : goal.invariant-loop-entry
invariant-loop-entry l = record {
  replies : l.replies.items ≡ map (λ (entry : Entry). unanswered entry.call) (take l.entry-index l.batch);
  prefixes : AllByRecursion (λ (entry : Entry). RatesPrefix entry.call) (take l.entry-index l.batch);
  len : vec_len l.replies ≡ l.entry-index;
  room : length l.batch ≤ vec_capacity l.replies;
}
