use Rattle.fc_replay.proofs.EndLemmas.{tokens_end_in_one_way}
use Rattle.fc_replay.proofs.laws.tokens_end_in_one_way.Goals as goal

pub returns : goal.returns
returns c = tokens_end_in_one_way
