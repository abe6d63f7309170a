use Rattle.std.proofs.Common.{ℕ, nat_le, ap, ◌∙◌, take}
use Rattle.std.specs.Prelude.{count_ones}
use Rattle.std.proofs.lemmas.Simd.{ones-mask_l}
use Rattle.palm_lanes.proofs.Bits.{bits_of_halves}
use Rattle.palm_lanes.proofs.search.count_at_most.Goals as goal

pub returns : goal.returns
returns c =
    let at_most = λ (k : ℕ). nat_le k c.args.key in
    let keys = c.args.keys.now in
    ap count_ones (bits_of_halves at_most 8 c.args.len keys c.told-keys c.at_most_bits-low.ensures.bits c.at_most_bits-high.ensures.bits c.joined.ensures)
    ∙ ones-mask_l at_most (take c.args.len keys)
