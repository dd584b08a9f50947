use Rattle.fc_codes.proofs.BitLemmas.{bit_set}
use Rattle.fc_codes.proofs.seats.with_card.Goals as goal

pub returns : goal.returns
returns c = record { value = bit_set c.args.bits c.args.index c.ranges.bits.fits c.requires.below }
