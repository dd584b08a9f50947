use Rattle.fc_solve.proofs.output.found_answers.find_answer.Goals as goal

pub returns-in-Some-clause-answer : goal.returns-in-Some-clause-answer
returns-in-Some-clause-answer g c = rw c.in-Some.is c.certified.ensures.answer
