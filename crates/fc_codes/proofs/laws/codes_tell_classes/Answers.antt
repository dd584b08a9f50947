use Rattle.fc_codes.proofs.LawLemmas.{codes_tell}
use Rattle.fc_codes.proofs.laws.codes_tell_classes.Goals as goal

pub returns : goal.returns
returns c = codes_tell
