use Rattle.fc_runs.proofs.CertificateLemmas.{few_written}
use Rattle.fc_runs.proofs.laws.few_classes_are_written.Goals as goal

pub returns : goal.returns
returns c = few_written
