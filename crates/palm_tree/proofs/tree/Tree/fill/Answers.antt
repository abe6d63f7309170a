use Rattle.std.proofs.Common.{◌≡◌, ◌<◌, ◌++◌, ℕ, List, [], ◌∷◌, length, None, ap, subst, sym, arith, ◌∙◌, length-append}
use Rattle.palm_base.specs.Tree.{rows_of}
use Rattle.palm_tree.specs.LookLanes.{AreUnderWay, way_left}
use Rattle.palm_tree.specs.TreeValue.{tree_in}
use Rattle.palm_tree.specs.declared.look_ups.Lane.{Lane}
use Rattle.palm_tree.proofs.LanesUnderWay.{read_at, taken_answered, taken_down, way_taken}
use Rattle.palm_tree.proofs.tree.Tree.fill.Goals as goal

pub loop-answers-preserved : goal.loop-answers-preserved
loop-answers-preserved c =
    let lanes : List Lane = c.loop-answers.lanes.items in
    let answers = c.loop-answers.answers.items in
    let k = c.in-Again.key in
    let place : c.len-place.result ≡ length answers = c.len-place.ensures ∙ c.loop-answers.answers.ok.0 in
    let inside : length answers < length c.args.entries.now = omega (arith, c.loop-answers.invariant.under_way.few, c.if-place-entries.false) in
    let here = read_at c.args.entries.now (length answers) c.len-place.result c.index-entries-place.result _ place inside c.index-entries-place.is in
    let more = ap length c.in_ok-push-in-Again.ensures.items ∙ length-append answers (None ∷ []) in
    let way = ap way_left c.push-in-Again-2.ensures.items ∙ way_taken lanes (record { place = c.len-place.result; key = k }) in
    record {
      under_way = rw (c.push-in-Again-2.ensures.items, c.in_ok-push-in-Again.ensures.items)
          (subst
          (λ (p : ℕ). AreUnderWay (rows_of (tree_in c.args.self.now)) c.args.entries.now
          (c.loop-answers.lanes.items ++ record { place = p; key = c.in-Again.key } ∷ []) (c.loop-answers.answers.items ++ None ∷ []))
          (sym place)
          (taken_down (rows_of (tree_in c.args.self.now)) c.args.entries.now lanes answers c.index-entries-place.result k
          c.loop-answers.invariant.under_way here (rw c.in-Again.is at c.in_ok-answer.ensures)));
      less = omega (arith, more, way, inside, c.loop-answers.invariant.less);
    }

pub loop-answers-preserved-in-Continue-branch-3 : goal.loop-answers-preserved-in-Continue-branch-3
loop-answers-preserved-in-Continue-branch-3 c =
    let answers = c.loop-answers.answers.items in
    let place : c.len-place.result ≡ length answers = c.len-place.ensures ∙ c.loop-answers.answers.ok.0 in
    let inside : length answers < length c.args.entries.now = omega (arith, c.loop-answers.invariant.under_way.few, c.if-place-entries.false) in
    let here = read_at c.args.entries.now (length answers) c.len-place.result c.index-entries-place.result _ place inside c.index-entries-place.is in
    let more = ap length c.in_ok-push-in-Answer.ensures.items ∙ length-append answers (c.in-Answer.answer ∷ []) in
    record {
      under_way = rw c.in_ok-push-in-Answer.ensures.items
          (taken_answered (rows_of (tree_in c.args.self.now)) c.args.entries.now c.loop-answers.lanes.items answers c.index-entries-place.result c.in-Answer.answer
          c.loop-answers.invariant.under_way here (rw c.in-Answer.is at c.in_ok-answer.ensures));
      less = omega (arith, more, inside, c.loop-answers.invariant.less);
    }
