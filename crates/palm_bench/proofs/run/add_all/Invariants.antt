use Rattle.std.proofs.Common.{◌≡◌, drop}
use Rattle.palm_bench.specs.Runs.{with_replies}
use Rattle.palm_bench.proofs.run.add_all.Given as goal

-- the sum so far with the replies that are left is the whole sum
abbrev pub invariant-loop-reply : goal.invariant-loop-reply
invariant-loop-reply l = with_replies l.sum (drop l.reply-index l.replies) ≡ with_replies l.fn.sum l.replies
