use Rattle.fc_best.proofs.HearLemmas.{hears_listed, if_err, some_further}
use Rattle.fc_best.proofs.StandingLemmas.{attempt_found, list_written}
use Rattle.fc_best.specs.inner.Standing.{limit_of}
use Rattle.fc_best.proofs.standings.Standing.searched.Goals as goal

pub tell-requires : goal.tell-requires
tell-requires g c =
    let q = c.args.question.now in
    let b = c.args.position.now in
    let plan = c.args.plan in
    let one = attempt_found q c.asked_with-asked.result b plan.weight plan.budget (limit_of c.args.self.list) c.aim-aim.result.limit c.in_ok-attempt.attempt
    c.asked_with-asked.ensures.value c.aim-aim.ensures.limit c.in_ok-attempt.ensures.right in
    record {
      written = list_written q b c.after-standing.result
          (c.after-standing.ensures.stands q q.method.bound b plan.weight plan.budget c.requires.stands c.requires.room one c.in_ok-attempt.ensures.far);
    }

pub returns-clause-stands : goal.returns-clause-stands
returns-clause-stands g c =
    let q = c.args.question.now in
    let b = c.args.position.now in
    let plan = c.args.plan in
    let one = attempt_found q c.asked_with-asked.result b plan.weight plan.budget (limit_of c.args.self.list) c.aim-aim.result.limit c.in_ok-attempt.attempt
    c.asked_with-asked.ensures.value c.aim-aim.ensures.limit c.in_ok-attempt.ensures.right in
    c.after-standing.ensures.stands q q.method.bound b plan.weight plan.budget c.requires.stands c.requires.room one c.in_ok-attempt.ensures.far

pub returns-clause-heard : goal.returns-clause-heard
returns-clause-heard g c =
    hears_listed c.args.question.now c.args.position.now g.L.Listener.hears c.args.self c.after-standing.result c.args.listener.now
    c.attempt_after.new.listener c.tell.new.listener c.requires.stands (returns-clause-stands g c) c.attempt_after.ensures.heard
    (c.after-standing.ensures.rises c.args.question.now c.args.position.now c.requires.stands c.in_ok-attempt.ensures.far) c.after-standing.ensures.same
    c.tell.ensures.told

pub returns-in_err-attempt-clause-cut : goal.returns-in_err-attempt-clause-cut
returns-in_err-attempt-clause-cut g c =
    if_err c.from_residual.result _
    (some_further c.args.question.now c.args.position.now g.L.Listener.hears c.args.self c.args.listener.now c.attempt_after.new.listener
    c.requires.stands c.attempt_after.ensures.heard)
