use Rattle.std.proofs.Common.{◌≡◌, ℕ, Some, cond, take, ◌∙◌, ap, sym, arith}
use Rattle.std.specs.Option.{option_copied}
use Rattle.fc_position.specs.Board.{last_of}
use Rattle.fc_bound.specs.Knots.{ends_with}
use Rattle.fc_bound.proofs.BitLemmas.{one_bit_is}
use Rattle.fc_bound.proofs.waiting_rows.front_row.Goals as goal

pub returns-in-Some-clause-last : goal.returns-in-Some-clause-last
returns-in-Some-clause-last c =
    let front = take c.args.front c.args.cards.now in
    let last : last_of front ≡ Some c.index-in-Some.result =
    sym c.last.ensures.value ∙ ap option_copied c.in-Some.is ∙ ap (λ (n : ℕ). Some n) (sym c.index-in-Some.ensures.value) in
    λ x. one_bit_is c.index-in-Some.result x (omega (arith, c.index-in-Some.ensures.below))
    ∙ ap (λ o. cond (ends_with x o) 1 0) (sym last)
