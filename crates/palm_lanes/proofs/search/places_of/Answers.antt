use Rattle.std.proofs.Common.{◌==◌}
use Rattle.palm_lanes.proofs.Bits.{bits_of_halves}
use Rattle.palm_lanes.proofs.search.places_of.Goals as goal

pub returns : goal.returns
returns c = bits_of_halves (λ k. k == c.args.key) 8 c.args.len c.args.keys.now c.told-keys c.equal_bits-low.ensures.bits c.equal_bits-high.ensures.bits c.joined.ensures
