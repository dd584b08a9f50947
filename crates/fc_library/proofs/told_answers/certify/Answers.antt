use Rattle.std.proofs.Common.{refl, sym}
use Rattle.fc_search.specs.Problem.{problem_of}
use Rattle.fc_library.proofs.HeldLemmas.{told_so}
use Rattle.fc_library.specs.Answers.{IsAnswerCertified, IsVerdictCertified}
use Rattle.fc_library.proofs.told_answers.certify.Goals as goal

pub returns-in-Ok-clause-told : goal.returns-in-Ok-clause-told
returns-in-Ok-clause-told g c =
    let q = c.args.question.now in
    let b = c.args.start.now in
    let answered = c.in-Ok.ensures in
    told_so (IsVerdictCertified (problem_of q b) c.in-Ok.answer.verdict) (IsAnswerCertified q b) c.certified_of.result
    (λ both is. (c.in-Ok.answer.verdict, answered.right, is))
    (c.certified_of.ensures.told (problem_of q b) (sym c.game.ensures.value) c.requires.position (answered.certifiable refl))
