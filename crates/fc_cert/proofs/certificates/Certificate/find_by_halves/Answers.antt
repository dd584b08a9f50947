use Rattle.std.proofs.Common.{◌+◌, ◌-◌, ◌/◌, sym, ◌∙◌, arith}
use Rattle.fc_cert.proofs.HalvingLemmas.{above_more, below_more, key_found, none_found}
use Rattle.fc_cert.proofs.certificates.Certificate.find_by_halves.Goals as goal

pub loop-low-preserved-in-Less : goal.loop-low-preserved-in-Less
loop-low-preserved-in-Less c =
    let lt = c.loop-low-test.true in
    let within = c.loop-low.invariant.within in
    let middle = c.loop-low.low + (c.loop-low.high - c.loop-low.low) / 2 in
    let record_there = c.record_at-cost.result in record {
      order = omega arith;
      within = omega (arith, lt, within);
      below = c.loop-low.invariant.below;
      above = above_more c.args.self.now.rows c.len-high.ensures.content.rising c.args.key.now middle
          (record_there.0.now, record_there.1) c.record_at-cost.ensures.value (sym c.compare.ensures.value ∙ c.in-Less.is);
    }

pub loop-low-preserved : goal.loop-low-preserved
loop-low-preserved c =
    let lt = c.loop-low-test.true in
    let middle = c.loop-low.low + (c.loop-low.high - c.loop-low.low) / 2 in
    let record_there = c.record_at-cost.result in record {
      order = omega (arith, lt);
      within = c.loop-low.invariant.within;
      below = below_more c.args.self.now.rows c.len-high.ensures.content.rising c.args.key.now middle
          (record_there.0.now, record_there.1) c.record_at-cost.ensures.value (sym c.compare.ensures.value ∙ c.in-Greater.is);
      above = c.loop-low.invariant.above;
    }

pub returns-in-Equal : goal.returns-in-Equal
returns-in-Equal c =
    let middle = c.loop-low.low + (c.loop-low.high - c.loop-low.low) / 2 in
    let record_there = c.record_at-cost.result in record {
      value = key_found c.args.self.now.rows c.len-high.ensures.content.rising c.args.key.now middle record_there.0.now record_there.1
          c.record_at-cost.ensures.value (sym c.compare.ensures.value ∙ c.in-Equal.is);
    }

pub returns : goal.returns
returns c = record {
  value = none_found c.args.self.now.rows c.len-high.ensures.content.rising c.args.key.now c.loop-low.low c.loop-low.high
      c.loop-low-test.false c.loop-low.invariant.below c.loop-low.invariant.above;
}
