use Rattle.std.proofs.Common.{◌≡◌, ◌++◌, ◌+◌, ◌≤◌, length, vec_len, vec_capacity}
use Rattle.std.specs.Vec.Iter.{into_iter_items, into_iter_len}
use Rattle.palm_batch.specs.OpenCalls.{filled}
use Rattle.palm_batch.proofs.open_calls.fill_in.Given as goal

-- the replies so far, and room for all
abbrev pub invariant-loop-item : goal.invariant-loop-item
invariant-loop-item l = record {
  far : filled l.fn.known.items l.fn.others.items ≡ l.all.items ++ filled (into_iter_items l.known) (into_iter_items l.others);
  known : into_iter_len l.known ≡ length (into_iter_items l.known);
  others : into_iter_len l.others ≡ length (into_iter_items l.others);
  room : vec_len l.all + into_iter_len l.known ≤ vec_capacity l.all;
}

abbrev pub decreases-loop-item : goal.decreases-loop-item
decreases-loop-item l = into_iter_len l.known
