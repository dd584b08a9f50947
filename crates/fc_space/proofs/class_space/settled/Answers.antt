use Rattle.std.proofs.Common.{arith, sym}
use Rattle.fc_space.proofs.class_space.settled.Goals as goal

pub returns-clause-settled : goal.returns-clause-settled
returns-clause-settled g c = λ s coded. (
  c.settle_coded-settling.new.position,
  c.len.result,
  (c.settle_coded-settling.result.0.items, sym c.len.ensures.value, c.settle_coded-settling.ensures.settled),
  c.settle_coded-settling.ensures.coded s coded,
  omega arith,
)
