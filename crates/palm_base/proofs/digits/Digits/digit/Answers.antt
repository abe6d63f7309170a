use Rattle.palm_base.proofs.Keys.{digit_of_word}
use Rattle.palm_base.proofs.digits.Digits.digit.Goals as goal

pub returns-clause-digit : goal.returns-clause-digit
returns-clause-digit c =
    (digit_of_word c.self.inside.word c.args.place c.args.self.now c.self.invariant.prefix c.self.view_is c.requires).0

pub returns-clause-small : goal.returns-clause-small
returns-clause-small c =
    (digit_of_word c.self.inside.word c.args.place c.args.self.now c.self.invariant.prefix c.self.view_is c.requires).1
