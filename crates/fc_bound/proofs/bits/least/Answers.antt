use Rattle.std.proofs.Common.{w64, arith}
use Rattle.std.proofs.lemmas.Nat.Bits.{bit_at-trailing_zeros}
use Rattle.fc_bound.proofs.bits.least.Goals as goal

pub overflow_cast-result : goal.overflow_cast-result
overflow_cast-result c =
    let lowest = bit_at-trailing_zeros w64 c.args.bits c.requires.some c.ranges.bits.fits in
    omega (arith, lowest.0)

pub returns : goal.returns
returns c =
    let lowest = bit_at-trailing_zeros w64 c.args.bits c.requires.some c.ranges.bits.fits in
    record { below = lowest.0; set = lowest.1; least = lowest.2 }
