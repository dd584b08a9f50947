use Rattle.fc_cert.proofs.CertifiedLemmas.{certificates_true}
use Rattle.fc_cert.proofs.laws.certificates_are_true.Goals as goal

pub returns : goal.returns
returns c = certificates_true
