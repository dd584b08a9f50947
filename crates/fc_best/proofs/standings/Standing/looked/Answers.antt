use Rattle.std.proofs.Common.{◌≡◌, ◌≤◌, None, List, ap, sym, subst, length, rules}
use Rattle.std.specs.Prelude.{IfSome}
use Rattle.fc_moves.specs.declared.steps.Move.{Move}
use Rattle.fc_answers.specs.declared.answers.TheConstants.{MOST_MOVES}
use Rattle.fc_bound.specs.declared.kinds.BoundKind.TheVariants.{Plain}
use Rattle.fc_best.specs.inner.Attempt.{IsAttempt, floor_of}
use Rattle.fc_best.specs.inner.Standing.{limit_of, with_share}
use Rattle.fc_best.proofs.HearLemmas.{hears_listed, if_err, some_further}
use Rattle.fc_best.proofs.StandingLemmas.{attempt_few, list_written, look_found}
use Rattle.fc_best.proofs.standings.Standing.looked.Goals as goal

pub tell-requires : goal.tell-requires
tell-requires g c =
    let q = c.args.question.now in
    let b = c.args.position.now in
    let plan = c.args.plan in
    let none : c.args.self.list ≡ None = search rules in
    let one = look_found q c.looked_with-asked.result b plan.weight plan.budget c.any-aim.result.limit c.in_ok-attempt.attempt
    c.looked_with-asked.ensures.value c.any-aim.ensures.limit c.in_ok-attempt.ensures.right in
    let made = c.by_bound-attempt.ensures.right q b plan.weight plan.budget (ap (λ m. m.bound) c.method.ensures.value) one in
    let stands = c.after-standing.ensures.stands q Plain b plan.weight plan.budget c.requires.stands c.requires.room
    (subst (λ l. IsAttempt (with_share q plan.weight plan.budget) Plain b l c.by_bound-attempt.result) (sym (ap limit_of none)) made)
    c.in_ok-attempt.ensures.far in
    record { written = list_written q b c.after-standing.result stands }

pub returns-clause-stands : goal.returns-clause-stands
returns-clause-stands g c =
    let q = c.args.question.now in
    let b = c.args.position.now in
    let plan = c.args.plan in
    let none : c.args.self.list ≡ None = search rules in
    let one = look_found q c.looked_with-asked.result b plan.weight plan.budget c.any-aim.result.limit c.in_ok-attempt.attempt
    c.looked_with-asked.ensures.value c.any-aim.ensures.limit c.in_ok-attempt.ensures.right in
    let made = c.by_bound-attempt.ensures.right q b plan.weight plan.budget (ap (λ m. m.bound) c.method.ensures.value) one in
    c.after-standing.ensures.stands q Plain b plan.weight plan.budget c.requires.stands c.requires.room
    (subst (λ l. IsAttempt (with_share q plan.weight plan.budget) Plain b l c.by_bound-attempt.result) (sym (ap limit_of none)) made)
    c.in_ok-attempt.ensures.far

pub returns-clause-heard : goal.returns-clause-heard
returns-clause-heard g c =
    hears_listed c.args.question.now c.args.position.now g.L.Listener.hears c.args.self c.after-standing.result c.args.listener.now
    c.attempt_after.new.listener c.tell.new.listener c.requires.stands (returns-clause-stands g c) c.attempt_after.ensures.heard
    (c.after-standing.ensures.rises c.args.question.now c.args.position.now c.requires.stands c.in_ok-attempt.ensures.far) c.after-standing.ensures.same
    c.tell.ensures.told

pub returns-in_err-attempt-clause-cut : goal.returns-in_err-attempt-clause-cut
returns-in_err-attempt-clause-cut g c =
    if_err c.from_residual.result _
    (some_further c.args.question.now c.args.position.now g.L.Listener.hears c.args.self c.args.listener.now c.attempt_after.new.listener
    c.requires.stands c.attempt_after.ensures.heard)

pub after-standing-requires-clause-few_found : goal.after-standing-requires-clause-few_found
after-standing-requires-clause-few_found g c =
    subst (λ o. IfSome o (λ (moves : List Move). length moves ≤ MOST_MOVES)) (sym c.by_bound-attempt.ensures.list)
    (attempt_few c.looked_with-asked.result c.looked_with-asked.result.method.bound c.args.position.now c.any-aim.result.limit c.in_ok-attempt.attempt c.in_ok-attempt.ensures.right)

pub after-standing-requires-clause-raised : goal.after-standing-requires-clause-raised
after-standing-requires-clause-raised g c = c.by_bound-attempt.ensures.raised (floor_of c.args.self.shown)
