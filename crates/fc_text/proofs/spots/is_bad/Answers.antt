use Rattle.fc_text.proofs.SpotLemmas.{home_token}
use Rattle.fc_text.proofs.spots.is_bad.Goals as goal

pub returns-in-BadFoundation-Foundations-clause-bad : goal.returns-in-BadFoundation-Foundations-clause-bad
returns-in-BadFoundation-Foundations-clause-bad c before size noted =
    let here = c.in-BadFoundation-Foundations in
    home_token c.args.cells c.args.fault c.args.kind before c.args.token.now c.is_bad_home.result here.is-0 here.is-1
    (c.is_bad_home.ensures.bad before (noted here.is-0 here.is-1))

pub returns-in-BadFoundation-Foundations-clause-noted : goal.returns-in-BadFoundation-Foundations-clause-noted
returns-in-BadFoundation-Foundations-clause-noted c before noted good fault kind =
    c.is_bad_home.ensures.noted before (noted fault kind) good
