use Rattle.std.proofs.Common.{◌≡◌, ◌∙◌, ◌++◌, sym, replicate, Ok, arith}
use Rattle.palm_gen.specs.Generator.{last_digits}
use Rattle.palm_gen.proofs.Spelled.{all_read}
use Rattle.palm_gen.proofs.generate.digits_of.Goals as goal

pub unreachable-requires : goal.unreachable-requires
unreachable-requires c =
    c.in_default.not-Ok (last_digits c.args.n c.args.value ++ replicate c.args.times c.args.digit)
    (c.read.ensures ∙ all_read c.args.n c.args.value c.args.digit _ c.args.times c.write_digits.new.text (omega arith) c.requires.some c.requires.few c.requires.small c.write_digits.ensures.written c.write_digits.ensures.rest)

pub returns : goal.returns
returns c =
    let all = c.read.ensures ∙ all_read c.args.n c.args.value c.args.digit _ c.args.times c.write_digits.new.text (omega arith) c.requires.some c.requires.few c.requires.small c.write_digits.ensures.written c.write_digits.ensures.rest in
    let same : Ok c.in-Ok.digits ≡ Ok (last_digits c.args.n c.args.value ++ replicate c.args.times c.args.digit) = sym c.in-Ok.is ∙ all in
    cc
