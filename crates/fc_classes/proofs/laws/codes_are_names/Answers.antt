use Rattle.fc_classes.proofs.NamingLemmas.{codes_name}
use Rattle.fc_classes.proofs.laws.codes_are_names.Goals as goal

pub returns : goal.returns
returns c = codes_name
