use Rattle.palm_base.proofs.Cuts.{pieces_join, pieces_are_counted, pieces_are_sized, pieces_are_wide, few_are_one_piece}
use Rattle.palm_base.proofs.laws.cuts_hold.Goals as goal

pub returns-clause-join : goal.returns-clause-join
returns-clause-join g c = pieces_join

pub returns-clause-count : goal.returns-clause-count
returns-clause-count g c = pieces_are_counted

pub returns-clause-size : goal.returns-clause-size
returns-clause-size g c = pieces_are_sized

pub returns-clause-wide : goal.returns-clause-wide
returns-clause-wide g c = pieces_are_wide

pub returns-clause-few : goal.returns-clause-few
returns-clause-few g c = few_are_one_piece
