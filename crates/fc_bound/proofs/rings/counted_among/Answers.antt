use Rattle.std.proofs.Common.{w64, arith}
use Rattle.std.specs.Int.{bit_not}
use Rattle.std.proofs.lemmas.Nat.{and_le_l}
use Rattle.fc_bound.proofs.ShedLemmas.{still}
use Rattle.fc_bound.proofs.TiedLemmas.{in_first, none_set}
use Rattle.fc_bound.proofs.rings.counted_among.Goals as goal

pub loop-left-preserved : goal.loop-left-preserved
loop-left-preserved c =
    let left = c.loop-left.left in
    let less = c.remove.result in
    let card = c.least_card-card.result in
    let was = c.loop-left.invariant in
    let others = bit_not w64 c.ring_through-ring.result in
    record {
      below = omega (arith, and_le_l less others, c.remove.ensures.less c.least_card-card.ensures.set, was.below);
      within = λ d set. was.within d (still left less card d c.remove.ensures.value (in_first less others d set));
      shown = c.with_ring-shown.ensures.shown;
      cards = c.with_ring-shown.ensures.cards was.cards;
      apart = λ d none.
          c.with_ring-shown.ensures.apart d (was.apart d none)
          (none_set c.ring_through-ring.result d (λ one. omega (arith, was.within d (c.ring_through-ring.ensures.within d one), none)));
    }
