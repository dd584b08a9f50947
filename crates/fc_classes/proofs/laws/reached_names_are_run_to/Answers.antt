use Rattle.fc_classes.specs.Namings.{by_keys, by_codes}
use Rattle.fc_classes.proofs.PathLemmas.{reached_run_to}
use Rattle.fc_classes.proofs.laws.reached_names_are_run_to.Goals as goal

pub returns : goal.returns
returns c = record { keys = reached_run_to by_keys; codes = λ s. reached_run_to (by_codes s) }
