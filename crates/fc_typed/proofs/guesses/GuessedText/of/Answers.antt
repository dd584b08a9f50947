use Rattle.std.proofs.Common.{◌≡◌, sym, ◌∙◌, subst, rules}
use Rattle.fc_text.specs.Board.{Spells}
use Rattle.fc_typed.specs.Guess.{with_foundations}
use Rattle.fc_typed.proofs.GuessLemmas.{refused_spells}
use Rattle.fc_typed.proofs.OnlyLemmas.{no_line}
use Rattle.fc_typed.proofs.guesses.GuessedText.of.Goals as goal

pub returns-then-is_err-2-clause-none : goal.returns-then-is_err-2-clause-none
returns-then-is_err-2-clause-none c some =
    let counts = c.lacked_counts-counts.result in
    let e : c.as_slice.result.now ≡ with_foundations counts c.args.text.now = search rules in
    no_line c.args.cells c.args.text.now counts c.requires.game c.lacked_counts-counts.ensures
    (λ b spells. refused_spells c.args.cells c.as_slice.result.now c.read_board.result (sym c.is_err-2.ensures.value ∙ c.if-is_err-2.true)
    c.read_board.ensures.fault b (subst (λ t. Spells c.args.cells t b) (sym e) spells))

pub returns-then-tells_no_card-clause-none : goal.returns-then-tells_no_card-clause-none
returns-then-tells_no_card-clause-none c some counts b are spells = some (c.tells_no_card.ensures.0 c.if-tells_no_card.true)
