use Rattle.std.proofs.Common.{◌∷◌, ◌∙◌, ap, sym, subst}
use Rattle.fc_frontier.specs.Queue.{IsLeast, in_order}
use Rattle.fc_frontier.specs.inner.Queue.{IsPlaceOfLeast}
use Rattle.fc_frontier.proofs.QueueLemmas.{in_order-remove, in_order-least, first-added}
use Rattle.fc_frontier.proofs.lists.ListFrontierFrontier.pop_least.Goals as goal

pub returns-clause-order : goal.returns-clause-order
returns-clause-order c = sym c.self.view_is
    ∙ in_order-remove c.self.inside.pairs.items c.in_ok-place.place c.remove.result
    (subst (λ xs. IsPlaceOfLeast xs c.in_ok-place.place) c.as_slice.ensures.value c.in_ok-place.ensures.place) c.remove.ensures.value
    ∙ ap (λ xs. c.remove.result ∷ in_order xs) (sym c.remove.ensures.items)

pub returns-clause-taken : goal.returns-clause-taken
returns-clause-taken c = first-added c.remove.result c.args.self.now _ (returns-clause-order c)

pub returns-clause-least : goal.returns-clause-least
returns-clause-least c = subst (IsLeast c.remove.result) c.self.view_is
    (in_order-least c.self.inside.pairs.items c.in_ok-place.place c.remove.result
    (subst (λ xs. IsPlaceOfLeast xs c.in_ok-place.place) c.as_slice.ensures.value c.in_ok-place.ensures.place) c.remove.ensures.value)

pub returns-clause-none : goal.returns-clause-none
returns-clause-none c = (λ e. absurd (cc), λ e. absurd (let h = sym (returns-clause-order c) ∙ e in cc))
