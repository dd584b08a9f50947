use Rattle.fc_typed.proofs.MissingLemmas.{missing_is}
use Rattle.fc_typed.proofs.missing.is_missing.Goals as goal

pub returns-then-stands_nowhere : goal.returns-then-stands_nowhere
returns-then-stands_nowhere c =
    missing_is c.args.text.now c.args.card c.is_told_home.result (c.stands_nowhere.ensures.0 c.if-stands_nowhere.true) c.is_told_home.ensures
