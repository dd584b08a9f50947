use Rattle.fc_sequences.proofs.OneListLemmas.{one_list}
use Rattle.fc_sequences.proofs.laws.gathered_to_one_list.Goals as goal

pub returns : goal.returns
returns c = one_list
