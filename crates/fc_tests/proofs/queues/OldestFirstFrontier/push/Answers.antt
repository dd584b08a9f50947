use Rattle.std.proofs.Common.{ℕ, [], ◌∷◌, ◌++◌, sym, subst}
use Rattle.std.proofs.lemmas.List.Sorted.{IsPermutation-sym, IsPermutation-to_front}
use Rattle.fc_frontier.specs.Queue.{Adds}
use Rattle.fc_tests.proofs.queues.OldestFirstFrontier.push.Goals as goal

pub returns-clause-added : goal.returns-clause-added
returns-clause-added c =
    let old = c.self.inside.pairs.items in
    let pair : ℕ × ℕ = (c.args.f, c.args.node) in
    subst (λ new. Adds c.args.self.now new pair) (sym c.in_ok-push.ensures.items)
    (subst (λ ps. Adds ps (old ++ pair ∷ []) pair) c.self.view_is (IsPermutation-sym (old ++ pair ∷ []) (pair ∷ old) (IsPermutation-to_front old pair)))
