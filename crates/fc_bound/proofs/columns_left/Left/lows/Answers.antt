use Rattle.std.proofs.Common.{◌-◌, ◌^◌, subst}
use Rattle.fc_bound.specs.inner.Rows.{AreLow}
use Rattle.fc_bound.proofs.LowLemmas.{low_first}
use Rattle.fc_bound.proofs.columns_left.Left.lows.Goals as goal

pub returns : goal.returns
returns c = record {
  value = subst (AreLow (2 ^ 64 - 1 - c.above.result)) c.self.view_is
      (low_first c.self.inside.position.now c.self.inside.rows.now c.self.inside.held c.self.inside.all c.self.inside.lasts c.above.result c.self.invariant
      c.above.type_inv c.above.ensures.value);
}
