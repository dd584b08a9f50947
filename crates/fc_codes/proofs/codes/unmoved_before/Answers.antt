use Rattle.std.proofs.Common.{w64}
use Rattle.std.specs.Int.{trailing_zeros}
use Rattle.std.proofs.lemmas.Nat.Bits.{bit_at-trailing_zeros}
use Rattle.fc_codes.proofs.DigitLemmas.{unmoved_zero, moved_some}
use Rattle.fc_codes.proofs.codes.unmoved_before.Goals as goal

pub returns-clause-unmoved : goal.returns-clause-unmoved
returns-clause-unmoved c =
    let lowest = bit_at-trailing_zeros w64 c.args.word c.requires.some c.ranges.word.fits in
    λ i below. unmoved_zero c.args.word (trailing_zeros w64 c.args.word) i lowest.2 below

pub returns-clause-moved : goal.returns-clause-moved
returns-clause-moved c =
    let lowest = bit_at-trailing_zeros w64 c.args.word c.requires.some c.ranges.word.fits in
    moved_some c.args.word (trailing_zeros w64 c.args.word) lowest.1
