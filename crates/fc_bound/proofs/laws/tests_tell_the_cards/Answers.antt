use Rattle.fc_bound.proofs.TellLemmas.{cards_told}
use Rattle.fc_bound.proofs.laws.tests_tell_the_cards.Goals as goal

pub returns : goal.returns
returns c = cards_told
