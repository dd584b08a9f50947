use Rattle.std.proofs.Common.{◌≡◌, ℕ, Some, cond, ◌∙◌, ap, sym, arith}
use Rattle.std.specs.Option.{option_copied}
use Rattle.fc_position.specs.Board.{last_of}
use Rattle.fc_bound.specs.Knots.{ends_with}
use Rattle.fc_bound.proofs.BitLemmas.{one_bit_is}
use Rattle.fc_bound.proofs.waiting_rows.last_bit.Goals as goal

pub returns-in-Some : goal.returns-in-Some
returns-in-Some c =
    let cards = c.args.cards.now in
    let last : last_of cards ≡ Some c.index.result =
    sym c.last.ensures.value ∙ ap option_copied c.in-Some.is ∙ ap (λ (n : ℕ). Some n) (sym c.index.ensures.value) in
    record {
      value = λ x. one_bit_is c.index.result x (omega (arith, c.index.ensures.below)) ∙ ap (λ o. cond (ends_with x o) 1 0) (sym last);
    }
