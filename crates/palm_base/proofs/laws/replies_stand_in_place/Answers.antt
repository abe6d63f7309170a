use Rattle.palm_base.proofs.Replies.{replies_stand_in_place, replies_are_as_many}
use Rattle.palm_base.proofs.laws.replies_stand_in_place.Goals as goal

pub returns-clause-place : goal.returns-clause-place
returns-clause-place c = replies_stand_in_place

pub returns-clause-count : goal.returns-clause-count
returns-clause-count c = replies_are_as_many
