use Rattle.std.proofs.Common.{arith}
use Rattle.fc_bound.specs.Knots.{is_loose}
use Rattle.fc_bound.proofs.LowLemmas.{mark_passes}
use Rattle.fc_bound.proofs.ShedLemmas.{mark_none}
use Rattle.fc_bound.proofs.columns_left.Left.first_loose.Goals as goal

pub returns-then-loose-eq0-clause-none : goal.returns-then-loose-eq0-clause-none
returns-then-loose-eq0-clause-none c = mark_none c.args.self.now c.loose-loose.result c.loose-loose.ensures.value c.if-loose-eq0.true

pub least-requires : goal.least-requires
least-requires c = record { some = omega (arith, c.if-loose-eq0.false) }

pub returns-clause-last : goal.returns-clause-last
returns-clause-last c = c.loose-loose.ensures.value.lasts c.least.result c.least.ensures.set

pub returns-clause-loose : goal.returns-clause-loose
returns-clause-loose c = λ i last.
    mark_passes c.args.self.now c.loose-loose.result i c.least.result (is_loose c.args.self.now) c.loose-loose.ensures.value last c.least.ensures.set
