use Rattle.fc_runs.proofs.answer_rows.answer_row.Goals as goal

pub returns-in-Some-clause-row : goal.returns-in-Some-clause-row
returns-in-Some-clause-row g c = rw c.in-Some.is c.certified_row.ensures.row

pub returns-in-Some-clause-fault : goal.returns-in-Some-clause-fault
returns-in-Some-clause-fault g c = rw c.in-Some.is c.certified_row.ensures.fault
