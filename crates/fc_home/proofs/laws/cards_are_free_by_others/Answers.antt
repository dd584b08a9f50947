use Rattle.fc_home.proofs.RuleLemmas.{free_others}
use Rattle.fc_home.proofs.laws.cards_are_free_by_others.Goals as goal

pub returns : goal.returns
returns c = free_others
