use Rattle.std.proofs.Common.{arith}
use Rattle.fc_bound.proofs.CountLemmas.{away-all}
use Rattle.fc_bound.proofs.bounds.away.Goals as goal

pub returns-clause-value : goal.returns-clause-value
returns-clause-value c = omega (
  arith,
  away-all c.args.position.now.homes,
  c.home.ensures.value,
  c.home-2.ensures.value,
  c.home-3.ensures.value,
  c.home-4.ensures.value,
  c.home.ensures.most,
  c.home-2.ensures.most,
  c.home-3.ensures.most,
  c.home-4.ensures.most,
)
