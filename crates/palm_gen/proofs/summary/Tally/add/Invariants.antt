use Rattle.std.proofs.Common.{◌≡◌, ◌≤◌, ◌+◌, ◌*◌, drop}
use Rattle.palm_base.specs.declared.amount.TheConstants.{MOST_RATE}
use Rattle.palm_gen.specs.Summary.{hits_in, sum_in}
use Rattle.palm_gen.proofs.summary.Tally.add.Given as goal

-- the tally so far, with what the other replies are, is that of all
abbrev pub invariant-loop-reply : goal.invariant-loop-reply
invariant-loop-reply l = record {
  calls : l.self-inside.calls ≡ l.fn.self.calls + l.reply-index;
  hits : l.self-inside.hits + hits_in (drop l.reply-index l.replies) ≡ l.fn.self.hits + hits_in l.replies;
  sum : l.self-inside.sum + sum_in (drop l.reply-index l.replies) ≡ l.fn.self.sum + sum_in l.replies;
  few_hits : l.self-inside.hits ≤ l.self-inside.calls;
  small_sum : l.self-inside.sum ≤ l.self-inside.calls * MOST_RATE;
}
