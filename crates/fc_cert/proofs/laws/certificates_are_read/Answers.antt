use Rattle.fc_cert.proofs.LawLemmas.{certificates_read}
use Rattle.fc_cert.proofs.laws.certificates_are_read.Goals as goal

pub returns : goal.returns
returns c = certificates_read
