use Rattle.std.proofs.Common.{◌≡◌, length, sym, ap, ◌∙◌, arith}
use Rattle.std.proofs.lemmas.Slice.Zip.{AllZip-long}
use Rattle.palm_base.specs.Tree.{rows_of}
use Rattle.palm_tree.specs.TreeValue.{tree_in}
use Rattle.palm_look.specs.Unmet.{IsKnownUnlessMet}
use Rattle.palm_batch.specs.OpenCalls.{open_entries, filled}
use Rattle.palm_batch.proofs.OpenReplies.{stand_for, few_open}
use Rattle.palm_batch.proofs.batch.run_batch.Goals as goal

pub open_entries-requires : goal.open_entries-requires
open_entries-requires g c =
    let rows = rows_of (tree_in c.forget_moved.new.tree) in
    ap length c.deref.ensures.value ∙ sym (AllZip-long (IsKnownUnlessMet rows c.args.batch.now) c.in_ok-known.known.items c.args.batch.now c.in_ok-known.ensures.unmet)

pub run_all-requires-2-clause-few_calls : goal.run_all-requires-2-clause-few_calls
run_all-requires-2-clause-few_calls g c =
    let known = c.in_ok-known.known.items in
    let left : c.deref-2.result.now ≡ open_entries known c.args.batch.now = c.deref-2.ensures.value ∙ c.in_ok-open.ensures ∙ ap (λ l. open_entries l c.args.batch.now) c.deref.ensures.value in
    omega (arith, ap length left, few_open known c.args.batch.now, c.requires.few_calls)

pub returns-in_err-replies-clause-ticks : goal.returns-in_err-replies-clause-ticks
returns-in_err-replies-clause-ticks g c =
    let rest = stand_for c.forget_moved.ensures.tree c.deref.ensures.value (c.deref-2.ensures.value ∙ c.in_ok-open.ensures) c.in_ok-known.ensures.unmet in
    omega (arith, c.run_all-2.ensures.ticks, rest.cost)

pub returns-in_err-replies-clause-moved : goal.returns-in_err-replies-clause-moved
returns-in_err-replies-clause-moved g c =
    let rest = stand_for c.forget_moved.ensures.tree c.deref.ensures.value (c.deref-2.ensures.value ∙ c.in_ok-open.ensures) c.in_ok-known.ensures.unmet in
    omega (arith, c.run_all-2.ensures.moved, rest.cost)

pub fill_in-requires-clause-room : goal.fill_in-requires-clause-room
fill_in-requires-clause-room g c =
    let rows = rows_of (tree_in c.forget_moved.new.tree) in
    omega (arith, AllZip-long (IsKnownUnlessMet rows c.args.batch.now) c.in_ok-known.known.items c.args.batch.now c.in_ok-known.ensures.unmet, c.in_ok-room.ensures.capacity)

pub returns-clause-tree : goal.returns-clause-tree
returns-clause-tree g c =
    let rest = stand_for c.forget_moved.ensures.tree c.deref.ensures.value (c.deref-2.ensures.value ∙ c.in_ok-open.ensures) c.in_ok-known.ensures.unmet in
    c.in_ok-replies.ensures.tree ∙ rest.tree

pub returns-clause-replies : goal.returns-clause-replies
returns-clause-replies g c =
    let rest = stand_for c.forget_moved.ensures.tree c.deref.ensures.value (c.deref-2.ensures.value ∙ c.in_ok-open.ensures) c.in_ok-known.ensures.unmet in
    c.fill_in.ensures ∙ ap (filled c.in_ok-known.known.items) c.in_ok-replies.ensures.replies ∙ rest.replies c.in_ok-known.ensures.known

pub returns-clause-rows : goal.returns-clause-rows
returns-clause-rows g c =
    let rest = stand_for c.forget_moved.ensures.tree c.deref.ensures.value (c.deref-2.ensures.value ∙ c.in_ok-open.ensures) c.in_ok-known.ensures.unmet in
    c.in_ok-replies.ensures.rows ∙ rest.rows

pub returns-clause-ticks : goal.returns-clause-ticks
returns-clause-ticks g c =
    let rest = stand_for c.forget_moved.ensures.tree c.deref.ensures.value (c.deref-2.ensures.value ∙ c.in_ok-open.ensures) c.in_ok-known.ensures.unmet in
    omega (arith, c.run_all-2.ensures.ticks, rest.cost)

pub returns-clause-moved : goal.returns-clause-moved
returns-clause-moved g c =
    let rest = stand_for c.forget_moved.ensures.tree c.deref.ensures.value (c.deref-2.ensures.value ∙ c.in_ok-open.ensures) c.in_ok-known.ensures.unmet in
    omega (arith, c.run_all-2.ensures.moved, rest.cost)
