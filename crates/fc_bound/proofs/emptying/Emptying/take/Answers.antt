use Rattle.std.proofs.Common.{bit_or, get_or, arith}
use Rattle.fc_bound.specs.Rows.{no_row}
use Rattle.fc_bound.proofs.ShedLemmas.{still}
use Rattle.fc_bound.proofs.TiedLemmas.{and_twice, within_least}
use Rattle.fc_bound.proofs.emptying.Emptying.take.Goals as goal

pub invariant_of-self : goal.invariant_of-self
invariant_of-self c =
    let s = c.args.self.now in
    let all = c.remove-all.result in
    record {
      cards = omega (arith, s.cards, within_least all s.all (λ d set. still s.all all c.args.card d c.remove-all.ensures.value set));
      left = and_twice (bit_or s.lasts (get_or c.args.rows.now c.args.card no_row).beneath) all;
    }
