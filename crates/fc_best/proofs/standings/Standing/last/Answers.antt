use Rattle.std.proofs.Common.{◌≡◌, ◌≤◌, ap, arith}
use Rattle.fc_best.proofs.standings.Standing.last.Goals as goal

pub unwrap-budget-requires : goal.unwrap-budget-requires
unwrap-budget-requires g c =
    let spent = c.requires.stands.2.spent in
    let most : c.method.result.strategy.budget ≤ 16000000 = c.get.ensures.range.greatest in
    let same : c.method.result.strategy.budget ≡ c.args.question.now.method.strategy.budget = ap (λ m. m.strategy.budget) c.method.ensures.value in
    c.new.ensures.range.1 (record { least = c.requires.left; greatest = omega (arith, spent, most, same) })
