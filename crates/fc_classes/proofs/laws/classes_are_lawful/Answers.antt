use Rattle.fc_classes.specs.Namings.{by_keys, by_codes}
use Rattle.fc_classes.proofs.TableLemmas.{lawful}
use Rattle.fc_classes.proofs.laws.classes_are_lawful.Goals as goal

pub returns : goal.returns
returns c = record { keys = lawful by_keys; codes = λ s. lawful (by_codes s) }
