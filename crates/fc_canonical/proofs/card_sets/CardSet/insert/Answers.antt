use Rattle.std.proofs.Common.{◌+◌, ◌<◌, cond, eqb, ap, subst, ◌∙◌}
use Rattle.fc_canonical.specs.inner.Parts.{times_in, times_due}
use Rattle.fc_canonical.proofs.SetLemmas.{no_card, was_there, set_more, set_below}
use Rattle.fc_canonical.proofs.card_sets.CardSet.insert.Goals as goal

pub returns-then-card-ge52-clause-refused : goal.returns-then-card-ge52-clause-refused
returns-then-card-ge52-clause-refused c = λ _. no_card c.args.self.now c.args.card c.if-card-ge52.true

pub returns-then-self-bit-ne0-clause-refused : goal.returns-then-self-bit-ne0-clause-refused
returns-then-self-bit-ne0-clause-refused c =
    λ _. subst (λ n. times_due c.args.card < times_in n c.args.card + 1) c.self.view_is
    (was_there c.self.inside.bits c.args.card c.if-card-ge52.false c.if-self-bit-ne0.true)

pub invariant_of-self : goal.invariant_of-self
invariant_of-self c = set_below c.self.inside.bits c.args.card c.if-card-ge52.false c.self.invariant

pub returns-clause-added : goal.returns-clause-added
returns-clause-added c =
    λ _ k. set_more c.self.inside.bits c.args.card c.if-card-ge52.false c.if-self-bit-ne0.false k
    ∙ ap (λ n. times_in n k + cond (eqb c.args.card k) 1 0) c.self.view_is
