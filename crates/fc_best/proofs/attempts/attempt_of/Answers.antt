use Rattle.fc_best.proofs.AttemptLemmas.{attempted}
use Rattle.fc_best.proofs.attempts.attempt_of.Goals as goal

pub returns-clause-right : goal.returns-clause-right
returns-clause-right g c q b limit run =
    attempted q b limit c.args.search.now c.in_ok-list.list c.in_ok-shown.shown c.stored-stored.result c.given_up-given_up.result c.hundredths-open_share.result
    run.asked run.ran c.requires.done c.in_ok-list.ensures.found c.in_ok-shown.ensures.shown c.in_ok-shown.ensures.lost
    c.given_up-given_up.ensures.earned c.given_up-given_up.ensures.status c.given_up-given_up.ensures.none
    c.stored-stored.ensures.size c.stored-stored.ensures.most run.range
