use Rattle.std.proofs.Common.{arith}
use Rattle.fc_bound.proofs.ShedLemmas.{still}
use Rattle.fc_bound.proofs.TiedLemmas.{within_least}
use Rattle.fc_bound.proofs.rings.without.Goals as goal

pub one_more-requires-clause-able : goal.one_more-requires-clause-able
one_more-requires-clause-able c =
    let able = c.able.result in
    let less = c.remove-able.result in
    omega (
      arith,
      c.able.ensures.below,
      within_least less able (λ d set. still able less c.args.card d c.remove-able.ensures.value set),
    )
