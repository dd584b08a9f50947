use Rattle.fc_bound.proofs.TiedLemmas.{in_second}
use Rattle.fc_bound.proofs.ring_search.long_ring_through.Goals as goal

pub returns-then-tied-ring-clause-within : goal.returns-then-tied-ring-clause-within
returns-then-tied-ring-clause-within c = in_second c.way_around.result c.args.able
