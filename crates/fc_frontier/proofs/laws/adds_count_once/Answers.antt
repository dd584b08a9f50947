use Rattle.fc_frontier.proofs.QueueLemmas.{adds_once}
use Rattle.fc_frontier.proofs.laws.adds_count_once.Goals as goal

pub returns : goal.returns
returns c = adds_once
