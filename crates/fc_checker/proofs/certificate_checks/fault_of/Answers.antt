use Rattle.fc_checker.proofs.FaultLemmas.{form_fault}
use Rattle.fc_checker.proofs.certificate_checks.fault_of.Goals as goal

pub returns-in_default : goal.returns-in_default
returns-in_default c = record { value = λ g b bytes fault. form_fault bytes c.args.fault c.in_default.not-Memory fault }
