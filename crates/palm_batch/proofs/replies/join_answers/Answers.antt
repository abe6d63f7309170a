use Rattle.std.proofs.Common.{◌++◌, take, drop, length, sym, ap, ◌∙◌}
use Rattle.std.proofs.Math.Seq.{take-append_seam}
use Rattle.palm_batch.proofs.JoinedAnswers.{answers_fit, all_joined}
use Rattle.palm_batch.proofs.replies.join_answers.Goals as goal

pub join_all-requires-clause-fit : goal.join_all-requires-clause-fit
join_all-requires-clause-fit c =
    let a = c.requires.answers in
    answers_fit a.0 a.1 a.2 c.args.batch.now c.args.answers c.requires.prefixes c.in_ok-replies.ensures.prefixes a.3

pub returns : goal.returns
returns c =
    let replies = c.join_all.new.replies in
    let rest = drop (length replies) c.in_ok-replies.replies.items in
    record {
      replies = λ places lows rows are.
          ap (λ n. take n (replies ++ rest)) (sym (c.join_all.auto.replies ∙ c.deref_mut.ensures.len)) ∙ take-append_seam replies rest
          ∙ c.in_ok-join_all.ensures.ok ∙ all_joined places lows rows c.args.batch.now c.args.answers c.requires.prefixes c.in_ok-replies.ensures.prefixes are;
    }
