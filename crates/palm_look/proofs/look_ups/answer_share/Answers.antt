use Rattle.palm_base.specs.Tree.{rows_of}
use Rattle.palm_tree.specs.TreeValue.{tree_in}
use Rattle.palm_look.proofs.JudgedShares.{next_looked, one_judged}
use Rattle.palm_look.proofs.look_ups.answer_share.Goals as goal

pub loop-i-preserved : goal.loop-i-preserved
loop-i-preserved c =
    let rows = rows_of (tree_in c.args.tree.now) in
    let keys = c.args.keys.now in
    let entries = c.args.entries.now in
    let loop = c.loop-i in
    let old = next_looked rows keys entries loop.i loop.answers.items c.index-entries-i.result c.index_mut.result.now c.loop-i-test.true c.index-entries-i.is c.index_mut.ensures.value loop.invariant in
    one_judged rows keys entries loop.i loop.answers.items c.index-entries-i.result c.take_back.new.answer c.loop-i-test.true c.index-entries-i.is (c.take_back.ensures rows old) loop.invariant
