use Rattle.std.proofs.Common.{rules, ◌≡◌, inl, inr, [], ◌∷◌, refl}
use Rattle.std.specs.Prelude.{codes}
use Rattle.fc_lists.proofs.told_entries.told_count.Goals as goal

pub returns-then-eq-clause-told : goal.returns-then-eq-clause-told
returns-then-eq-clause-told c =
    let card = c.in_ok-cards.cards.now in
    let is : c.in_ok-word.word.now ≡ codes "from" = search rules in
    (card ∷ [], inl (card, refl, refl), cc (c.in_ok-cards.ensures.steps, c.in_ok-word.ensures.steps, is))

pub returns-clause-told : goal.returns-clause-told
returns-clause-told c =
    let number = c.in_ok-cards.cards.now in
    let deepest = c.in_ok-_deepest._deepest.now in
    let to = c.in_ok-_to._to.now in
    let last = c.in_ok-_last._last.now in
    let cards : c.in_ok-word.word.now ≡ codes "cards," = search rules in
    let is : c.in_ok-word-2.word.now ≡ codes "from" = search rules in (
      number ∷ codes "cards," ∷ deepest ∷ to ∷ last ∷ [],
      inr (number, deepest, to, last, refl, c.in_ok-count.ensures.told),
      cc (
        c.in_ok-cards.ensures.steps,
        c.in_ok-word.ensures.steps,
        cards,
        c.in_ok-_deepest.ensures.steps,
        c.in_ok-_to.ensures.steps,
        c.in_ok-_last.ensures.steps,
        c.in_ok-word-2.ensures.steps,
        is,
      ),
    )
