use Rattle.std.proofs.Common.{arith}
use Rattle.fc_frontier.proofs.PlaceLemmas.{next-placed}
use Rattle.fc_frontier.proofs.tie_lists.next_of.Goals as goal

pub returns : goal.returns
returns c = record {
  place = next-placed c.args.entries.now c.loop-i.best c.loop-i.invariant.within
      (λ k d below. c.loop-i.invariant.least k d (omega (arith, c.loop-i-test.false)))
      (λ k d after below. c.loop-i.invariant.last k d after (omega (arith, c.loop-i-test.false)));
}
