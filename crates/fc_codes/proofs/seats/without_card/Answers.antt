use Rattle.fc_codes.proofs.BitLemmas.{bit_cleared}
use Rattle.fc_codes.proofs.seats.without_card.Goals as goal

pub returns : goal.returns
returns c = record { value = bit_cleared c.args.bits c.args.index c.ranges.bits.fits c.requires.below }
