use Rattle.fc_cert.proofs.CertifiedLemmas.{backed_certified}
use Rattle.fc_cert.proofs.laws.backed_answers_are_certified.Goals as goal

pub returns : goal.returns
returns c = backed_certified
