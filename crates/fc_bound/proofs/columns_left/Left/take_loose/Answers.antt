use Rattle.std.proofs.Common.{◌∙◌, arith}
use Rattle.fc_bound.specs.inner.Rows.{ends_in}
use Rattle.fc_position.specs.Board.{last_of}
use Rattle.fc_bound.specs.Knots.{is_loose}
use Rattle.fc_bound.proofs.LeftLemmas.{shed_same}
use Rattle.fc_bound.proofs.ShedLemmas.{loose_met, mark_none, mark_some}
use Rattle.fc_bound.proofs.columns_left.Left.take_loose.Goals as goal

pub returns-then-loose-eq0-clause-none_loose : goal.returns-then-loose-eq0-clause-none_loose
returns-then-loose-eq0-clause-none_loose c = mark_none c.args.self.now c.loose-loose.result c.loose-loose.ensures.value c.if-loose-eq0.true

pub returns-clause-met : goal.returns-clause-met
returns-clause-met c = c.shed.ensures.met ∙ loose_met c.args.self.now c.loose-loose.result c.loose-loose.ensures.value

pub returns-clause-some_loose : goal.returns-clause-some_loose
returns-clause-some_loose c =
    mark_some c.args.self.now c.loose-loose.result c.loose-loose.ensures.value (omega (arith, c.if-loose-eq0.false)) c.loose-loose.type_inv

pub returns-clause-taken : goal.returns-clause-taken
returns-clause-taken c =
    let s = c.args.self.now in
    c.shed.ensures.value ∙ shed_same (λ x. ends_in c.loose-loose.result (last_of x)) (is_loose s) s c.loose-loose.ensures.value.each
