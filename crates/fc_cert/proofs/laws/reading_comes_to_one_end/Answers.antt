use Rattle.fc_cert.proofs.OnceLemmas.{reading_once}
use Rattle.fc_cert.proofs.laws.reading_comes_to_one_end.Goals as goal

pub returns : goal.returns
returns c = reading_once
