use Rattle.fc_bound.proofs.TiedLemmas.{card_below}
use Rattle.fc_bound.proofs.ring_search.least_card.Goals as goal

pub returns-clause-below : goal.returns-clause-below
returns-clause-below c = card_below c.args.cards c.least.result c.requires.below c.least.ensures.set
