use Rattle.fc_codes.proofs.LawLemmas.{starts}
use Rattle.fc_codes.proofs.laws.starts_have_codes.Goals as goal

pub returns : goal.returns
returns c = starts
