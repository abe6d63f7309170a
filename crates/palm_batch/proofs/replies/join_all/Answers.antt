use Rattle.std.proofs.Common.{subst, sym, ◌∙◌}
use Rattle.std.specs.List.{AllByRecursion}
use Rattle.palm_batch.specs.Replies.{FitsEntry}
use Rattle.palm_batch.proofs.JoinedReplies.{none_joined, so_far_at, one_joined}
use Rattle.palm_batch.proofs.replies.join_all.Goals as goal

pub loop-answer-init : goal.loop-answer-init
loop-answer-init c = record {
  replies = c.requires.unanswered ∙ none_joined 0 c.args.batch.now;
  fit = subst (AllByRecursion (FitsEntry c.args.batch.now)) (sym (c.into_iter-answer-iterator.ensures.into_iter_gives.0 ∙ c.into_list-answer-items.ensures)) c.requires.fit;
}

pub join_answer-requires-clause-fits : goal.join_answer-requires-clause-fits
join_answer-requires-clause-fits c =
    let fit = subst (AllByRecursion (FitsEntry c.args.batch.now)) c.in-Some.ensures.steps.0 c.loop-answer.invariant.fit in
    fit.0.1 c.index-batch-place.result

pub join_answer-requires-clause-so_far : goal.join_answer-requires-clause-so_far
join_answer-requires-clause-so_far c =
    let fit = subst (AllByRecursion (FitsEntry c.args.batch.now)) c.in-Some.ensures.steps.0 c.loop-answer.invariant.fit in
    so_far_at c.args.batch.now c.loop-answer.yielded c.loop-answer.replies c.in-Some.answer.part.entry c.index-replies-place.result c.index-batch-place.result c.loop-answer.invariant.replies fit.0.0

pub loop-answer-preserved : goal.loop-answer-preserved
loop-answer-preserved c =
    let fit = subst (AllByRecursion (FitsEntry c.args.batch.now)) c.in-Some.ensures.steps.0 c.loop-answer.invariant.fit in
    record {
      replies = one_joined c.args.batch.now c.loop-answer.yielded c.in-Some.answer c.loop-answer.replies c.join_answer.new.reply c.index-replies-place.result c.index-batch-place.result c.loop-answer.invariant.replies
          fit.0.0 c.in_ok-join_answer.ensures.ok;
      fit = fit.1;
    }
