use Rattle.fc_library.proofs.HeldLemmas.{told_so}
use Rattle.fc_library.specs.Answers.{IsAnswerTold, IsVerdictTold}
use Rattle.fc_library.proofs.told_answers.tell.Goals as goal

pub returns-in-Ok-clause-told : goal.returns-in-Ok-clause-told
returns-in-Ok-clause-told g c =
    told_so (IsVerdictTold c.in-Ok.answer.verdict) (IsAnswerTold c.args.question.now c.args.start.now) c.told_of.result
    (λ told is. (c.in-Ok.answer.verdict, c.in-Ok.ensures.right, is)) c.told_of.ensures.told
