use Rattle.fc_classes.specs.Namings.{by_keys, by_codes}
use Rattle.fc_classes.proofs.PathLemmas.{reached_of_positions}
use Rattle.fc_classes.proofs.laws.reached_names_are_of_positions.Goals as goal

pub returns : goal.returns
returns c = record { keys = reached_of_positions by_keys; codes = λ s. reached_of_positions (by_codes s) }
