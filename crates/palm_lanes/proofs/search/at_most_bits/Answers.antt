use Rattle.std.proofs.Common.{leb, arith}
use Rattle.palm_lanes.proofs.Bits.{bits_of_lanes, bits_fit}
use Rattle.palm_lanes.proofs.search.at_most_bits.Goals as goal

pub returns : goal.returns
returns c =
    let keys = c.args.keys.now in
    let lanes = bits_of_lanes leb c.args.key 8 keys c.requires (omega arith) in
    record { bits = lanes; bound = rw lanes (bits_fit (λ k. leb k c.args.key) 8 keys c.requires) }
