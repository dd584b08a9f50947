use Rattle.std.proofs.Common.{rules, subst, ◌∷◌, arith}
use Rattle.std.specs.List.Sorted.{IsPermutation}
use Rattle.fc_frontier.specs.Tie.{Entry}
use Rattle.fc_frontier.proofs.TieLemmas.{enters-adds, older-pushed}
use Rattle.fc_frontier.proofs.ties.TieFrontierFrontier.push_tied.Goals as goal

pub invariant_of-self-2 : goal.invariant_of-self-2
invariant_of-self-2 c =
    let old = c.self.inside.heap.data.items in
    let new = c.push.new.self.data.items in
    let entry : Entry = record { f = c.args.f; tie = c.args.tie; stamp = c.self.inside.pushes; node = c.args.node } in
    record {
      ordered = c.in_ok-push.ensures.heap_order c.self.invariant.ordered;
      older = older-pushed entry old new c.saturating_add-self-inside.result
          (subst (λ (e : Entry). IsPermutation (e ∷ old) new) c.new.ensures.value c.in_ok-push.ensures.permutation)
          c.saturating_add-self-inside.ensures (omega arith) c.self.invariant.older;
    }

pub returns-clause-added : goal.returns-clause-added
returns-clause-added c = enters-adds
    (record { f = c.args.f; tie = c.args.tie; stamp = c.args.self.now.pushes; node = c.args.node })
    c.args.self.now
    (record { entries = c.push.new.self.data.items; pushes = c.saturating_add-self-inside.result })
    (search rules)
