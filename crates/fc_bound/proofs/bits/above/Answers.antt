use Rattle.fc_bound.proofs.BitLemmas.{above_is}
use Rattle.fc_bound.proofs.bits.above.Goals as goal

pub returns : goal.returns
returns c = record { value = above_is c.args.bits }
