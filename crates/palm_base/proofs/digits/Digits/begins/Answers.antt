use Rattle.std.proofs.Common.{◌≡◌, arith, sym, ap, ◌∙◌}
use Rattle.palm_base.specs.Key.{key}
use Rattle.palm_base.proofs.Fronts.{begins-test, begins-long}
use Rattle.palm_base.proofs.digits.Digits.begins.Goals as goal

pub returns-then-len : goal.returns-then-len
returns-then-len c = begins-long c.args.self.now c.args.other.now (omega arith)

pub returns : goal.returns
returns c =
    let own : key c.args.self.now ≡ c.self.inside.word = ap key (sym c.self.view_is) ∙ c.self.invariant.whole in
    let other : key c.args.other.now ≡ c.other.inside.word = ap key (sym c.other.view_is) ∙ c.other.invariant.whole in
    rw c.len-len.ensures.len (begins-test c.args.self.now c.args.other.now _ _ (rw c.self.view_is at c.self.invariant.prefix) (rw c.other.view_is at c.other.invariant.prefix) own other (omega arith))
