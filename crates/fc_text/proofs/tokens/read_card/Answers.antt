use Rattle.fc_text.proofs.TokenLemmas.{none_then, no_card}
use Rattle.fc_text.proofs.tokens.read_card.Goals as goal

pub returns-clause-refused : goal.returns-clause-refused
returns-clause-refused c = none_then c.read.result c.read.ensures.refused (no_card c.args.token.now)
