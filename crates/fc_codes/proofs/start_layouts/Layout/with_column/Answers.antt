use Rattle.std.proofs.Common.{◌≡◌, ◌<◌, ℕ, length, get_or, take, ◌+◌, sym, ◌∙◌, ap, subst, arith}
use Rattle.std.specs.Prelude.{IfNone}
use Rattle.std.proofs.lemmas.List.{length-set}
use Rattle.fc_position.specs.Board.{column}
use Rattle.fc_codes.specs.State.{IsStateOf}
use Rattle.fc_codes.specs.inner.Landed.{TellsCards}
use Rattle.fc_codes.proofs.ToldLemmas.{is_over, tells_more, ends_more}
use Rattle.fc_codes.proofs.start_layouts.Layout.with_column.Goals as goal

pub returns-in_err-state-clause-none : goal.returns-in_err-state-clause-none
returns-in_err-state-clause-none c =
    let b = c.args.position.now in
    let card = c.card-item.result in
    let k = c.loop-card.card-index in
    let cards = c.column-cards.ensures.value in
    let inside : k < length (column b c.args.i) = omega (arith, ap length cards, c.loop-card-test.true) in
    let at : card ≡ get_or (column b c.args.i) k card = c.card-item.is ∙ ap (λ l. get_or l k card) cards in
    let over = is_over c.args.self.now b c.args.i k c.args.code c.loop-card.code c.loop-card.below card c.column-cards.ensures.whole
    inside at c.loop-card.invariant.1 c.loop-card.invariant.2 in
    subst (λ r. IfNone r ((x : ℕ) × (x < 52) × ((n : ℕ) → IsStateOf c.args.self.now b x n → ⊥))) (sym c.from_residual.ensures)
    (card, c.state_over.ensures.card, c.in_err-state.ensures.none b over)

pub loop-card-preserved : goal.loop-card-preserved
loop-card-preserved c =
    let b = c.args.position.now in
    let card = c.card-item.result in
    let k = c.loop-card.card-index in
    let cards = c.column-cards.ensures.value in
    let inside : k < length (column b c.args.i) = omega (arith, ap length cards, c.loop-card-test.true) in
    let at : card ≡ get_or (column b c.args.i) k card = c.card-item.is ∙ ap (λ l. get_or l k card) cards in
    let over = is_over c.args.self.now b c.args.i k c.args.code c.loop-card.code c.loop-card.below card c.column-cards.ensures.whole
    inside at c.loop-card.invariant.1 c.loop-card.invariant.2 in
    let after = c.with_state-code.ensures in (
      ap length after.value ∙ length-set c.loop-card.code card c.in_ok-state.state ∙ c.loop-card.invariant.0,
      subst (TellsCards c.args.self.now b (take (k + 1) (column b c.args.i)) c.args.code) (sym after.value)
          (tells_more c.args.self.now b c.args.i k c.args.code c.loop-card.code card c.in_ok-state.state inside at after.count after.card
          c.loop-card.invariant.1 (c.in_ok-state.ensures.value b over)),
      ends_more b c.args.i k card inside at,
    )
