use Rattle.fc_codes.proofs.BitLemmas.{least_set, least_least, least_none}
use Rattle.fc_codes.proofs.seats.least_card.Goals as goal

pub returns-clause-set : goal.returns-clause-set
returns-clause-set c =
    least_set c.args.bits c.from_index.result c.ranges.bits.fits c.from_index.ensures.valid c.from_index.ensures.value

pub returns-clause-least : goal.returns-clause-least
returns-clause-least c =
    least_least c.args.bits c.from_index.result c.ranges.bits.fits c.from_index.ensures.valid c.from_index.ensures.value

pub returns-clause-none : goal.returns-clause-none
returns-clause-none c =
    least_none c.args.bits c.from_index.result c.ranges.bits.fits c.from_index.ensures.valid c.from_index.ensures.value
