use Rattle.std.proofs.Common.{◌∙◌, refl, sym, ap, subst}
use Rattle.fc_text.specs.Spelling.{SpellsHome}
use Rattle.fc_text.proofs.HomeLemmas.{homes_none, homes_next, homes_all, named_twice, no_home_bad}
use Rattle.fc_text.proofs.readers.read_homes.Goals as goal

pub loop-token-init : goal.loop-token-init
loop-token-init c =
    homes_none c.args.piece.now c.into_iter-token-iterator.result.rest.now _ _
    (ap (λ i. i.rest.now) c.into_iter-token-iterator.ensures.into_iter_gives ∙ c.new-token-items.ensures.rest) refl refl

pub returns-then-named-index-clause-fault : goal.returns-then-named-index-clause-fault
returns-then-named-index-clause-fault c =
    let spelled = subst (λ s. SpellsHome c.in-Some.token.now s c.in-Some-read_home.count) (sym c.index-index.ensures.value) c.in-Some-read_home.ensures.read in (
      refl,
      named_twice c.args.piece.now c.loop-token.token-iterator.rest.now c.next.new.self.rest.now c.loop-token.homes c.loop-token.named c.in-Some.token.now c.index-index.result c.in-Some-read_home.count c.loop-token.invariant
          c.in-Some.ensures.steps c.index-index.ensures.below spelled c.if-named-index.true,
    )

pub loop-token-preserved : goal.loop-token-preserved
loop-token-preserved c =
    let spelled = subst (λ s. SpellsHome c.in-Some.token.now s c.in-Some-read_home.count) (sym c.index-index.ensures.value) c.in-Some-read_home.ensures.read in
    homes_next c.args.piece.now c.loop-token.token-iterator.rest.now c.next.new.self.rest.now c.loop-token.homes c.loop-token.named c.in-Some.token.now c.index-index.result c.in-Some-read_home.count c.loop-token.invariant
    c.in-Some.ensures.steps c.index-index.ensures.below c.in-Some-read_home.ensures.most spelled c.if-named-index.false

pub returns-clause-read : goal.returns-clause-read
returns-clause-read c =
    (homes_all c.args.piece.now c.loop-token.token-iterator.rest.now c.loop-token.homes c.loop-token.named c.loop-token.invariant c.in-None.ensures.steps.0).0

pub returns-clause-sound : goal.returns-clause-sound
returns-clause-sound c =
    (homes_all c.args.piece.now c.loop-token.token-iterator.rest.now c.loop-token.homes c.loop-token.named c.loop-token.invariant c.in-None.ensures.steps.0).1

pub returns-in_default-clause-fault : goal.returns-in_default-clause-fault
returns-in_default-clause-fault c = (
  refl,
  no_home_bad c.args.piece.now c.loop-token.token-iterator.rest.now c.next.new.self.rest.now c.loop-token.homes c.loop-token.named c.in-Some.token.now c.loop-token.invariant
      c.in-Some.ensures.steps c.in_default.ensures.refused,
)
