use Rattle.std.proofs.Common.{subst}
use Rattle.fc_library.proofs.HeldLemmas.{told_so}
use Rattle.fc_library.specs.Answers.{IsAnswerCertified}
use Rattle.fc_library.specs.Bests.{IsBestCertified}
use Rattle.fc_library.proofs.bests.best_certified.Goals as goal

pub returns-clause-told : goal.returns-clause-told
returns-clause-told c =
    let start = c.in_ok-question.start in
    let asked = c.in_ok-question.ensures.asked in
    told_so (IsAnswerCertified c.in_ok-question.question start) (IsBestCertified c.args.name c.args.board.now c.args.budget) c.certify.result
    (λ both is. (start, asked.0, subst (λ q. IsAnswerCertified q start both) asked.1 is)) c.certify.ensures.told
