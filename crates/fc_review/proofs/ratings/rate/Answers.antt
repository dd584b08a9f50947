use Rattle.fc_review.proofs.ratings.rate.Goals as goal

pub returns-in-Some-clause-rated : goal.returns-in-Some-clause-rated
returns-in-Some-clause-rated g c = rw c.in-Some.is c.certify.ensures.rated

pub returns-in-Some-clause-fault : goal.returns-in-Some-clause-fault
returns-in-Some-clause-fault g c = rw c.in-Some.is c.certify.ensures.fault
