use Rattle.std.proofs.Common.{sym, ◌∙◌, arith}
use Rattle.palm_base.specs.Key.{IsKey}
use Rattle.palm_base.proofs.FromKey.{key_of_word, word_of_key}
use Rattle.palm_base.proofs.digits.Digits.from_key.Goals as goal

pub returns-then-after-ne0-clause-none : goal.returns-then-after-ne0-clause-none
returns-then-after-ne0-clause-none c digits p e = c.if-after-ne0.true (word_of_key c.args.word digits p e).0

pub returns-then-not-are_digits-clause-none : goal.returns-then-not-are_digits-clause-none
returns-then-not-are_digits-clause-none c digits p e = let small = (word_of_key c.args.word digits p e).1 in cc

is_key : (c : goal.Else-not-are_digits) → IsKey c.args.word
is_key c = key_of_word c.args.word (omega arith) c.if-len-eq0.false c.if-after-ne0.false (sym c.are_digits.ensures ∙ c.if-not-are_digits.false)

pub invariant_of-result : goal.invariant_of-result
invariant_of-result c = is_key c

pub returns-clause-found : goal.returns-clause-found
returns-clause-found c = ((is_key c).prefix, (is_key c).whole)
