use Rattle.std.proofs.Common.{refl, subst, ◌∷◌}
use Rattle.std.proofs.lemmas.List.Sorted.{IsPermutation-sym}
use Rattle.fc_frontier.specs.Tie.{TiedQueue, Pops}
use Rattle.fc_frontier.proofs.TieLemmas.{next-from_greatest, older-taken, takes-adds, takes-least}
use Rattle.fc_frontier.proofs.ties.TieFrontierFrontier.pop_least.Goals as goal

pub invariant_of-self-2 : goal.invariant_of-self-2
invariant_of-self-2 c = record {
  ordered = (c.in_ok-tied.ensures.heap_order c.self.invariant.ordered).0;
  older = older-taken c.in_ok-tied.tied c.self.inside.heap.data.items c.pop.new.self.data.items c.self.inside.pushes
      c.in_ok-tied.ensures.permutation c.self.invariant.older;
}

pub returns-clause-order : goal.returns-clause-order
returns-clause-order c =
    let old = c.self.inside.heap.data.items in
    let new = c.pop.new.self.data.items in
    let tied = c.in_ok-tied.tied in
    subst (λ (queue : TiedQueue). Pops c.pair.result queue (record { entries = new; pushes = c.self.inside.pushes })) c.self.view_is
    (record {
      entry = tied;
      is = c.pair.ensures.value;
      entries = IsPermutation-sym old (tied ∷ new) c.in_ok-tied.ensures.permutation;
      next = next-from_greatest tied old (c.in_ok-tied.ensures.heap_order c.self.invariant.ordered).1;
      pushes = refl;
    })

pub returns-clause-taken : goal.returns-clause-taken
returns-clause-taken c = takes-adds c.pair.result c.args.self.now _ (returns-clause-order c)

pub returns-clause-least : goal.returns-clause-least
returns-clause-least c = takes-least c.pair.result c.args.self.now _ (returns-clause-order c)
