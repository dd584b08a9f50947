use Rattle.fc_home.proofs.RuleLemmas.{forced_free}
use Rattle.fc_home.proofs.laws.forced_cards_are_free.Goals as goal

pub returns : goal.returns
returns c = forced_free
