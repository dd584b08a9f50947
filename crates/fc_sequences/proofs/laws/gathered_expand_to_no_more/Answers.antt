use Rattle.fc_sequences.proofs.LawLemmas.{gathered_expand}
use Rattle.fc_sequences.proofs.laws.gathered_expand_to_no_more.Goals as goal

pub returns : goal.returns
returns c = gathered_expand
