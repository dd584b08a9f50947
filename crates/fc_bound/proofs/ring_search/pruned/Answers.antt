use Rattle.std.proofs.Common.{arith}
use Rattle.fc_bound.proofs.TiedLemmas.{within_least, ring_tied}
use Rattle.fc_bound.proofs.ring_search.pruned.Goals as goal

pub loop-next-init : goal.loop-next-init
loop-next-init c = record {
  below = c.requires.below;
  within = λ d set. set;
  rings = λ ring ties among. among;
  ties = c.tied-next.ensures.value;
}

pub tied-next-requires-in-loop-next : goal.tied-next-requires-in-loop-next
tied-next-requires-in-loop-next c =
    let was = c.loop-next.invariant in
    record { below = omega (arith, was.below, within_least c.loop-next.next c.loop-next.left (λ d set. ((was.ties d).0 set).own)) }

pub loop-next-smaller : goal.loop-next-smaller
loop-next-smaller c =
    let was = c.loop-next.invariant in
    omega (arith, c.loop-next-test.true, within_least c.loop-next.next c.loop-next.left (λ d set. ((was.ties d).0 set).own))

pub loop-next-preserved : goal.loop-next-preserved
loop-next-preserved c =
    let was = c.loop-next.invariant in
    record {
      below = omega (arith, was.below, within_least c.loop-next.next c.loop-next.left (λ d set. ((was.ties d).0 set).own));
      within = λ d set. was.within d ((was.ties d).0 set).own;
      rings = λ ring ties among. ring_tied c.args.rows.now c.loop-next.left c.loop-next.next ring (λ d. (was.ties d).1) ties (was.rings ring ties among);
      ties = c.tied-next-in-loop-next.ensures.value;
    }

pub returns-clause-most : goal.returns-clause-most
returns-clause-most c = within_least c.loop-next.left c.args.cards c.loop-next.invariant.within
