use Rattle.fc_bound.proofs.RingCode.{ring_bits}
use Rattle.fc_bound.proofs.columns_left.Left.is_ring.Goals as goal

pub returns-then-set-ne0 : goal.returns-then-set-ne0
returns-then-set-ne0 c = record {
  value = ring_bits c.args.self.now c.args.set c.waiting_among.result c.ranges.set.fits c.waiting_among.type_inv c.if-set-ne0.true c.requires.lasts
      c.waiting_among.ensures.value;
}
