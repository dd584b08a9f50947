use Rattle.std.proofs.Common.{◌≡◌, ◌∙◌, sym, subst, ⊎_elim, arith, rules}
use Rattle.std.proofs.lemmas.Bool.{cases_lt}
use Rattle.fc_text.specs.Spot.{TellsNowhere}
use Rattle.fc_typed.proofs.guesses.tells_no_card.Goals as goal

pub returns-then-not-stands_nowhere : goal.returns-then-not-stands_nowhere
returns-then-not-stands_nowhere c =
    let here = rw c.unwrap-card.ensures at c.from_index.ensures.value in (
      λ none. absurd (cc none),
      λ all. absurd (cc (c.if-not-stands_nowhere.true, c.stands_nowhere.ensures.1 (subst (TellsNowhere c.args.text.now) (sym here) (all c.loop-index.index (omega arith))))),
    )

pub loop-index-preserved : goal.loop-index-preserved
loop-index-preserved c k below =
    let here = rw c.unwrap-card.ensures at c.from_index.ensures.value in
    ⊎_elim
    (λ before. c.loop-index.invariant k before)
    (λ past.
    let last : c.loop-index.index ≡ k = omega arith in
    subst (TellsNowhere c.args.text.now) (here ∙ last) (c.stands_nowhere.ensures.0 c.if-not-stands_nowhere.false))
    (cases_lt k c.loop-index.index)

pub returns : goal.returns
returns c = (λ _ k below. c.loop-index.invariant k (omega arith), λ _. search rules)
