use Rattle.fc_review.proofs.findings.run_review.Goals as goal

pub returns-in-Some-clause-reviewed : goal.returns-in-Some-clause-reviewed
returns-in-Some-clause-reviewed g c = rw c.in-Some.is c.review_certified.ensures.reviewed

pub returns-in-Some-clause-fault : goal.returns-in-Some-clause-fault
returns-in-Some-clause-fault g c = rw c.in-Some.is c.review_certified.ensures.fault
