-- Lemmas on queues that are walked over.
use Rattle.std.proofs.Common.{◌≡◌, ℕ, ◌+◌, List, [], ◌∷◌, ◌++◌, sym, subst}
use Rattle.std.specs.Prelude.{reverse}
use Rattle.std.specs.List.Sorted.{IsPermutation}
use Rattle.std.proofs.lemmas.List.Sorted.{IsPermutation-refl, IsPermutation-append, IsPermutation-map, IsPermutation-reverse}
use Rattle.fc_frontier.specs.inner.Stack.{queue_from, stack_pairs}
use Rattle.fc_frontier.specs.Walk.{node_pairs, pairs_in_turn}

-- the pairs of stacks in the order in which they are walked over are those in the order in which they are taken
pub walked-stacked : (f : ℕ) (stacks : List (List ℕ)) → IsPermutation (pairs_in_turn f stacks) (queue_from f stacks)
walked-stacked f [] = IsPermutation-refl []
walked-stacked f (nodes ∷ stacks) =
    IsPermutation-append (node_pairs f nodes) (stack_pairs f nodes) (pairs_in_turn (f + 1) stacks) (queue_from (f + 1) stacks)
    (IsPermutation-map (λ node. (f, node)) nodes (reverse nodes) (IsPermutation-reverse nodes))
    (walked-stacked (f + 1) stacks)

-- two parts of a queue, each in another order
pub both_walked : (all front back near far queue : List (ℕ × ℕ)) → all ≡ front ++ back → IsPermutation front near → IsPermutation back far
    → near ++ far ≡ queue → IsPermutation all queue
both_walked all front back near far queue e first second same =
    subst (IsPermutation all) same
    (subst (λ ps. IsPermutation ps (near ++ far)) (sym e) (IsPermutation-append front near back far first second))
