use Rattle.std.proofs.Common.{◌++◌, ◌∷◌, [], suc, drop, add-one, append_assoc, not, sym, ap, ◌∙◌, arith}
use Rattle.palm_batch.specs.OpenCalls.{open_entries}
use Rattle.palm_batch.proofs.OpenReplies.{next_open, next_known}
use Rattle.palm_batch.proofs.open_calls.open_entries.Goals as goal
use Rattle.palm_batch.proofs.open_calls.open_entries.Goals.{then-is_none+in_ok-push, else-is_none}

pub loop-i-preserved : goal.loop-i-preserved
loop-i-preserved c =
    let loop = c.loop-i in
    let known = c.args.known.now in
    let batch = c.args.batch.now in
    let rest = open_entries (drop (suc loop.i) known) (drop (suc loop.i) batch) in
    elim c.if-is_none.branch [
      | then-is_none+in_ok-push w ↦
          let next = next_open known batch loop.i c.index-known-i.result w.index-batch-i.result (omega (arith, c.loop-i-test.true, c.requires)) c.loop-i-test.true c.index-known-i.is
          (ap not (c.is_none.ensures ∙ ap not w.if-is_none.true)) w.index-batch-i.is in
          record {
            far = rw (add-one loop.i, w.left-is, w.in_ok-push.ensures.items) (loop.invariant.far ∙ ap (λ l. loop.left.items ++ l) next ∙ sym (append_assoc loop.left.items (w.index-batch-i.result ∷ []) rest));
          }
      | else-is_none w ↦
          let next = next_known known batch loop.i c.index-known-i.result (omega (arith, c.loop-i-test.true, c.requires)) c.loop-i-test.true c.index-known-i.is (ap not (c.is_none.ensures ∙ ap not w.if-is_none.false)) in
          record { far = rw (add-one loop.i, w.left-is) (loop.invariant.far ∙ ap (λ l. loop.left.items ++ l) next) }
    ]
