use Rattle.fc_review.proofs.FindingLemmas.{reviewed, unreviewed}
use Rattle.fc_review.proofs.findings.review_alone.Goals as goal

pub returns-clause-reviewed : goal.returns-clause-reviewed
returns-clause-reviewed g c =
    reviewed c.args.question.now _ c.args.start.now c.args.moves.now _ _ c.in_ok-finding.finding c.write_finding.result c.game.ensures.value
    c.in_ok-finding.ensures.found c.write_finding.ensures.told

pub returns-clause-fault : goal.returns-clause-fault
returns-clause-fault g c =
    unreviewed c.args.question.now _ c.args.start.now c.args.moves.now _ _ c.in_ok-finding.finding c.write_finding.result c.game.ensures.value
    c.in_ok-finding.ensures.found c.write_finding.ensures.fault
