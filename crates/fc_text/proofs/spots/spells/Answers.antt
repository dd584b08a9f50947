use Rattle.fc_text.proofs.SpotLemmas.{spells_is}
use Rattle.fc_text.proofs.spots.spells.Goals as goal

pub returns-in-Some : goal.returns-in-Some
returns-in-Some c = spells_is c.args.token.now c.in-Some.told c.args.card c.eq.result c.eq.ensures c.in-Some.ensures.read

pub returns-in-None : goal.returns-in-None
returns-in-None c = (λ t. absurd (cc t), λ s. absurd (c.in-None.ensures.refused c.args.card s))
