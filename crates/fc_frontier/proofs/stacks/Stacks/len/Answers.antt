use Rattle.std.proofs.Common.{◌+◌, sym, ◌∙◌, ap, arith, length}
use Rattle.std.specs.Prelude.{sum_by}
use Rattle.std.proofs.lemmas.List.{take_all}
use Rattle.fc_frontier.specs.Stack.{nodes_of}
use Rattle.fc_frontier.specs.inner.Stack.{queue_from}
use Rattle.fc_frontier.proofs.StackLemmas.{length-more, length-nodes_of, length-stacked}
use Rattle.fc_frontier.proofs.stacks.Stacks.len.Goals as goal

pub loop-stack-preserved : goal.loop-stack-preserved
loop-stack-preserved c = record {
  sum = ap (λ n. c.loop-stack.total + n) (c.len.ensures ∙ c.stack-item.result.ok.0)
      ∙ ap (λ n. n + length c.stack-item.result.items) c.loop-stack.invariant.sum
      ∙ sym (length-more c.deref-stack-items.result.now c.loop-stack.stack-index c.stack-item.result c.loop-stack-test.true
      c.stack-item.is);
  most = omega (arith, c.loop-stack.invariant.most, c.len.type_inv);
}

pub returns-clause-size : goal.returns-clause-size
returns-clause-size c =
    let stacks = c.deref-stack-items.result.now in
    c.loop-stack.invariant.sum
    ∙ ap (sum_by length) (take_all c.loop-stack.stack-index (nodes_of stacks) (omega (arith, length-nodes_of stacks, c.loop-stack-test.false)))
    ∙ sym (length-stacked 0 (nodes_of stacks))
    ∙ ap (λ stacks. length (queue_from 0 (nodes_of stacks))) c.deref-stack-items.ensures.value
    ∙ ap length c.self.view_is
