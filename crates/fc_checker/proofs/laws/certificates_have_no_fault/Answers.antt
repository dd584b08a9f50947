use Rattle.fc_checker.proofs.LawLemmas.{certificates_clean}
use Rattle.fc_checker.proofs.laws.certificates_have_no_fault.Goals as goal

pub returns : goal.returns
returns c = certificates_clean
