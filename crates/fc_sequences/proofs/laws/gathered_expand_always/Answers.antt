use Rattle.fc_sequences.proofs.LawLemmas.{gathered_always}
use Rattle.fc_sequences.proofs.laws.gathered_expand_always.Goals as goal

pub returns : goal.returns
returns c = gathered_always
