use Rattle.fc_checker.proofs.LawLemmas.{claims_once}
use Rattle.fc_checker.proofs.laws.claims_are_one.Goals as goal

pub returns : goal.returns
returns c = claims_once
