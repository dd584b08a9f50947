use Rattle.fc_text.proofs.OneFault.{one_fault}
use Rattle.fc_text.proofs.laws.texts_have_one_fault.Goals as goal

pub returns : goal.returns
returns c = one_fault
