use Rattle.std.proofs.Common.{◌≡◌, ◌+◌, length, get_or, Option}
use Rattle.std.specs.Vec.{with_item}
use Rattle.palm_base.specs.LookUps.{looked}
use Rattle.palm_base.specs.Tree.{rows_of}
use Rattle.palm_base.specs.declared.call.Reply.{Reply}
use Rattle.palm_tree.specs.TreeValue.{tree_in}
use Rattle.palm_tree.specs.declared.look_ups.Lane.{Lane}
use Rattle.palm_tree.proofs.LanesUnderWay.{SettledTo, lane_done, lane_again, lane_entry}
use Rattle.palm_tree.proofs.tree.Tree.settle.Goals as goal
use Rattle.palm_tree.proofs.tree.Tree.settle.Goals.{Joined-look, in-Answer+in-Some+in-Rows-1, in-Answer+in-Some+in-New-1, in-Answer+in-None-1, in-Again}

abbrev lane : Lane
lane = record { place = 0; key = 0 }

-- the entry has its answer, whatever stood in its place
done : (c : Joined-look) (found : Option Reply) → found ≡ looked (rows_of (tree_in c.args.self.now)) c.index-entries-place.result
    → c.match-look.answers ≡ with_item c.loop-i.answers (get_or c.args.lanes.now c.loop-i.i lane).place found → c.match-look.left ≡ c.loop-i.left
    → SettledTo (rows_of (tree_in c.args.self.now)) c.args.entries.now c.args.lanes.now (length c.args.answers.now.items) (c.loop-i.i + 1) c.match-look.left.items c.match-look.answers.items
done c found is answers left =
    let rows = rows_of (tree_in c.args.self.now) in
    let taken = c.args.answers.now.items in
    let entry = c.index-entries-place.result in
    let here = lane_entry rows c.args.entries.now c.args.lanes.now taken c.loop-i.i lane entry _ c.requires.under_way c.loop-i-test.true c.index-entries-place.is in
    rw (answers, left)
    (lane_done rows c.args.entries.now c.args.lanes.now (length taken) c.loop-i.i c.loop-i.left.items c.loop-i.answers.items lane entry found
    c.loop-i.invariant c.loop-i-test.true here is)

pub loop-i-preserved : goal.loop-i-preserved
loop-i-preserved c =
    elim c.match-look.branch [
      | in-Answer+in-Some+in-Rows-1 w ↦ done c w.in-Answer.answer w.in-Answer.ensures.look w.answers-is w.left-is
      | in-Answer+in-Some+in-New-1 w ↦ done c w.in-Answer.answer w.in-Answer.ensures.look w.answers-is w.left-is
      | in-Answer+in-None-1 w ↦ done c w.in-Answer.answer w.in-Answer.ensures.look w.answers-is w.left-is
      | in-Again w ↦
          let rows = rows_of (tree_in c.args.self.now) in
          let taken = c.args.answers.now.items in
          let entry = c.index-entries-place.result in
          let here = lane_entry rows c.args.entries.now c.args.lanes.now taken c.loop-i.i lane entry _ c.requires.under_way c.loop-i-test.true c.index-entries-place.is in
          rw (w.answers-is, w.left-is, w.push.ensures.items)
          (lane_again rows c.args.entries.now c.args.lanes.now (length taken) c.loop-i.i c.loop-i.left.items c.loop-i.answers.items lane entry w.in-Again.key
          c.loop-i.invariant c.loop-i-test.true here w.in-Again.ensures.look w.in-Again.ensures.less)
    ]
