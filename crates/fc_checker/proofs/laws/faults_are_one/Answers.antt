use Rattle.fc_checker.proofs.LawLemmas.{faults_once}
use Rattle.fc_checker.proofs.laws.faults_are_one.Goals as goal

pub returns : goal.returns
returns c = faults_once
