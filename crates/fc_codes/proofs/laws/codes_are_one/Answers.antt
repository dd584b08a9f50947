use Rattle.fc_codes.proofs.StateLemmas.{code_once}
use Rattle.fc_codes.proofs.laws.codes_are_one.Goals as goal

pub returns : goal.returns
returns c = code_once
