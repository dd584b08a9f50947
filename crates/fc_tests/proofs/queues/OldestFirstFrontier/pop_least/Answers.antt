use Rattle.std.proofs.Common.{◌<◌, ◌∷◌, length, subst, sym}
use Rattle.std.specs.Prelude.{remove}
use Rattle.std.proofs.lemmas.List.Sorted.{IsPermutation-remove, IsPermutation-sym}
use Rattle.fc_frontier.specs.Queue.{Adds}
use Rattle.fc_tests.proofs.queues.OldestFirstFrontier.pop_least.Goals as goal

pub returns-clause-taken : goal.returns-clause-taken
returns-clause-taken c =
    let old = c.self.inside.pairs.items in
    let place = c.in_ok-place.place in
    let within : place < length old = subst (λ ps. place < length ps) c.as_slice.ensures.value c.in_ok-place.ensures.place.0 in
    subst (λ new. Adds new c.args.self.now c.remove.result) (sym c.remove.ensures.items)
    (subst (λ ps. Adds (remove old place) ps c.remove.result) c.self.view_is
    (IsPermutation-sym old (c.remove.result ∷ remove old place) (IsPermutation-remove old place c.remove.result within c.remove.ensures.value)))
