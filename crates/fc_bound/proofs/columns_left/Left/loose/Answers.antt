use Rattle.std.proofs.Common.{bit_and, bit_or, sym, subst}
use Rattle.fc_bound.specs.inner.Rows.{AreLow, Mark}
use Rattle.fc_bound.specs.Knots.{is_loose}
use Rattle.fc_bound.proofs.LooseLemmas.{loose_mark}
use Rattle.fc_bound.proofs.columns_left.Left.loose.Goals as goal

pub returns : goal.returns
returns c = record {
  value = subst (λ v. Mark (bit_and c.self.inside.lasts (bit_or c.self.inside.held c.args.lows)) v (is_loose v)) c.self.view_is
      (loose_mark c.self.inside.position.now c.self.inside.rows.now c.self.inside.held c.self.inside.all c.self.inside.lasts c.args.lows c.self.invariant
      (subst (AreLow c.args.lows) (sym c.self.view_is) c.requires.lows));
}
