use Rattle.fc_cert.proofs.LengthLemmas.{written_short}
use Rattle.fc_cert.proofs.laws.written_certificates_are_short.Goals as goal

pub returns : goal.returns
returns c = written_short
