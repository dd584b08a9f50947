use Rattle.fc_typed.proofs.MissingLemmas.{nowhere_is, spot_stands}
use Rattle.fc_typed.proofs.missing.stands_nowhere.Goals as goal

pub returns : goal.returns
returns c =
    nowhere_is c.first_spot_of.result _ _ c.is_none.result c.is_none.ensures c.first_spot_of.ensures.spot c.first_spot_of.ensures.none
    (λ spot. spot_stands c.args.text.now c.args.card spot.line spot.place spot.token.now)
