use Rattle.palm_base.proofs.KeptAnswers.{answers_hold, replies_hold}
use Rattle.palm_base.proofs.look_laws.answers_hold.Goals as goal

pub returns-clause-call : goal.returns-clause-call
returns-clause-call c = answers_hold

pub returns-clause-place : goal.returns-clause-place
returns-clause-place c = replies_hold
