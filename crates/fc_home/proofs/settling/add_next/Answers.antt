use Rattle.std.proofs.Common.{◌≡◌, ◌+◌, Some, refl, sym, ◌∙◌, subst}
use Rattle.std.specs.Prelude.{slice_set}
use Rattle.fc_cards.specs.Card.{suit}
use Rattle.fc_position.specs.Board.{IsNext}
use Rattle.fc_moves.specs.Step.{place_number}
use Rattle.fc_home.specs.declared.settling.Goer.{Goer}
use Rattle.fc_home.specs.inner.Nexts.{HasNexts}
use Rattle.fc_home.proofs.NextLemmas.{nexts_pass, nexts_more}
use Rattle.fc_home.proofs.RuleLemmas.{refuted}
use Rattle.fc_home.proofs.settling.add_next.Goals as goal

pub returns-in_default-clause-after : goal.returns-in_default-clause-after
returns-in_default-clause-after c =
    let b = c.args.position.now in
    nexts_pass (IsNext b.homes) b c.args.from c.args.nexts.now c.playable.ensures.whole c.requires.there c.requires.before
    (λ d there next. let none = sym c.playable.ensures.value ∙ c.in_default.is in absurd (cc (sym none ∙ there)))

pub returns-then-is_next-clause-after : goal.returns-then-is_next-clause-after
returns-then-is_next-clause-after c =
    let b = c.args.position.now in
    let goer : Goer = record { card = c.in-Some.card; from = c.args.from } in
    let place : c.index.result ≡ suit c.in-Some.card = c.index.ensures.value ∙ c.suit.ensures in
    subst (λ s. HasNexts (IsNext b.homes) b (place_number c.args.from + 1) (slice_set c.args.nexts.now s (Some goer))) (sym place)
    (nexts_more (IsNext b.homes) b c.args.from c.args.nexts.now goer c.playable.ensures.whole c.requires.there c.requires.before refl
    (sym c.playable.ensures.value ∙ c.in-Some.is) (c.is_next.ensures.value.0 c.if-is_next.true))

pub returns-else-is_next-clause-after : goal.returns-else-is_next-clause-after
returns-else-is_next-clause-after c =
    let b = c.args.position.now in
    nexts_pass (IsNext b.homes) b c.args.from c.args.nexts.now c.playable.ensures.whole c.requires.there c.requires.before
    (λ d there next.
    let lies = sym c.playable.ensures.value ∙ c.in-Some.is in
    let same : d ≡ c.in-Some.card = cc in
    refuted c.is_next.result c.is_next.ensures.value c.if-is_next.false (subst (IsNext b.homes) same next))
