use Rattle.std.proofs.Common.{arith, ◌∙◌}
use Rattle.palm_bench.proofs.Spelled.{text_reads}
use Rattle.palm_bench.proofs.feed.prefix_of.Goals as goal

pub unreachable-requires : goal.unreachable-requires
unreachable-requires c =
    let own = c.last_digits-text.ensures in
    c.in_default.not-Ok _ (c.read.ensures ∙ text_reads _ (omega (arith, own.many)) (omega (arith, own.many)) own.digits)
