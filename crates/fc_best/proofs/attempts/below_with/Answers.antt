use Rattle.std.proofs.Common.{ap, subst}
use Rattle.fc_best_first.specs.Limits.{IsGreatBudget, IsWeight}
use Rattle.fc_best.proofs.attempts.below_with.Goals as goal

pub returns-in_err-search-clause-heard : goal.returns-in_err-search-clause-heard
returns-in_err-search-clause-heard g c =
    let (heard, hearing, floors, is) = c.ended_below.ensures.heard in
    (heard, hearing, floors)

pub returns-clause-right : goal.returns-clause-right
returns-clause-right g c =
    c.attempt_of.ensures.right c.args.question.now c.args.position.now c.args.aim.limit (record {
      asked = c.in_ok-search.ensures.problem;
      ran = c.in_ok-search.ensures.ran;
      range = record {
        weight = subst IsWeight (ap (λ m. m.strategy.weight) c.method-strategy.ensures.value) c.parts.ensures.range;
        budget = subst IsGreatBudget (ap (λ m. m.strategy.budget) c.method-strategy.ensures.value) c.get.ensures.range;
      };
    })

pub returns-clause-heard : goal.returns-clause-heard
returns-clause-heard g c =
    let (heard, hearing, floors, is) = c.ended_below.ensures.heard in
    (heard, hearing, floors)
