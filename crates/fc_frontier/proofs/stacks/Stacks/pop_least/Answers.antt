use Rattle.std.proofs.Common.{◌≡◌, ℕ, ◌+◌, ◌<◌, ◌≤◌, List, [], sym, ◌∙◌, subst, get_or, length, arith, refl}
use Rattle.fc_frontier.specs.Queue.{IsLeast}
use Rattle.fc_frontier.specs.Stack.{nodes_of}
use Rattle.fc_frontier.proofs.StackLemmas.{changed, empty_before, popped_from, none_left, stacked-least}
use Rattle.fc_frontier.proofs.stacks.Stacks.pop_least.Goals as goal

pub returns-in_err-get_mut-clause-none : goal.returns-in_err-get_mut-clause-none
returns-in_err-get_mut-clause-none c =
    let passed = subst (λ stacks. (k : ℕ) → c.self.inside.first ≤ k → k < c.first_full-self-inside.result
    → get_or (nodes_of stacks) k [] ≡ []) c.as_slice.ensures.value c.first_full-self-inside.ensures.passed in
    let empty = empty_before (nodes_of c.self.inside.stacks.items) c.self.inside.first c.first_full-self-inside.result
    c.self.invariant passed in (
      λ _. sym c.self.view_is ∙ none_left c.self.inside.stacks.items c.first_full-self-inside.result
          c.in_err-get_mut.ensures.item.3 empty,
      λ _. rw c.from_residual.ensures refl,
    )

-- the stacks before the one whose top is taken are empty, and it isn't past them
empty : (c : goal.After-row_known-1) (k : ℕ) → k < c.first_full-self-inside.result
    → get_or (nodes_of c.self.inside.stacks.items) k [] ≡ []
empty c =
    let passed = subst (λ stacks. (k : ℕ) → c.self.inside.first ≤ k → k < c.first_full-self-inside.result
    → get_or (nodes_of stacks) k [] ≡ []) c.as_slice.ensures.value c.first_full-self-inside.ensures.passed in
    empty_before (nodes_of c.self.inside.stacks.items) c.self.inside.first c.first_full-self-inside.result
    c.self.invariant passed

within : (c : goal.After-row_known-1) → c.first_full-self-inside.result < length c.self.inside.stacks.items
within c = omega (arith, c.in_ok-get_mut.ensures.variant.0 refl, c.self.inside.stacks.ok.0)

pub invariant_of-self-2 : goal.invariant_of-self-2
invariant_of-self-2 c = changed c.self.inside.stacks.items c.first_full-self-inside.result c.first_full-self-inside.result
    c.pop.new.self c.self.invariant.few (empty c) (omega arith)

pub returns-clause-order : goal.returns-clause-order
returns-clause-order c = sym c.self.view_is
    ∙ popped_from c.self.inside.stacks.items c.first_full-self-inside.result c.in_ok-node.node c.in_ok-get_mut.field-0.now
    c.pop.new.self (within c) c.in_ok-get_mut.ensures.value c.in_ok-node.ensures.items (empty c)

pub returns-clause-none : goal.returns-clause-none
returns-clause-none c = (λ e. absurd (cc), λ e. absurd (let h = sym (returns-clause-order c) ∙ e in cc))

pub returns-clause-least : goal.returns-clause-least
returns-clause-least c =
    let is : c.first_full-self-inside.result ≡ 0 + c.first_full-self-inside.result = omega arith in
    subst (λ (q : List (ℕ × ℕ)). IsLeast (c.first_full-self-inside.result, c.in_ok-node.node) q) c.self.view_is
    (stacked-least 0 c.first_full-self-inside.result c.first_full-self-inside.result (nodes_of c.self.inside.stacks.items) is (empty c))
