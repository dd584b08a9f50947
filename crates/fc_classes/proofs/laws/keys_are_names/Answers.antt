use Rattle.fc_classes.proofs.NamingLemmas.{keys_name}
use Rattle.fc_classes.proofs.laws.keys_are_names.Goals as goal

pub returns : goal.returns
returns c = keys_name
