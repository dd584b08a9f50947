use Rattle.std.proofs.Common.{sym, ◌∙◌, ap, subst, arith}
use Rattle.fc_frontier.specs.Queue.{with_pair}
use Rattle.fc_frontier.specs.inner.Stack.{AreStacks, queue_from}
use Rattle.fc_frontier.proofs.StackLemmas.{on_err, grown_are, changed, put_back, pushed_on}
use Rattle.fc_frontier.proofs.stacks.Stacks.push.Goals as goal

pub invariant_of-self-in_err-push : goal.invariant_of-self-in_err-push
invariant_of-self-in_err-push c =
    subst (λ stacks. AreStacks stacks c.self.inside.first)
    (sym (put_back c.grow.new.stacks.items c.args.place c.index_mut-stack.result.now c.push.new.self
    (omega (arith, c.in_ok-grow.ensures.enough, c.grow.new.stacks.ok.0)) c.index_mut-stack.ensures.value c.in_err-push.ensures.items))
    (grown_are c.self.inside.stacks c.grow.new.stacks c.self.inside.first c.args.place c.self.invariant
    c.grow.ensures.grown c.grow.ensures.most c.requires.near)

pub returns-in_err-push-clause-refused : goal.returns-in_err-push-clause-refused
returns-in_err-push-clause-refused c =
    on_err c.from_residual-in_err-push.result
    (ap (queue_from 0) (put_back c.grow.new.stacks.items c.args.place c.index_mut-stack.result.now c.push.new.self
    (omega (arith, c.in_ok-grow.ensures.enough, c.grow.new.stacks.ok.0)) c.index_mut-stack.ensures.value c.in_err-push.ensures.items)
    ∙ c.grow.ensures.grown.same ∙ c.self.view_is)

pub invariant_of-self-2 : goal.invariant_of-self-2
invariant_of-self-2 c =
    let least = c.min-self-inside.ensures in
    let are = grown_are c.self.inside.stacks c.grow.new.stacks c.self.inside.first c.args.place c.self.invariant
    c.grow.ensures.grown c.grow.ensures.most c.requires.near in
    changed c.grow.new.stacks.items c.args.place c.min-self-inside.result c.push.new.self are.few
    (λ k below. are.empty k (omega arith)) (omega arith)

pub returns-clause-order : goal.returns-clause-order
returns-clause-order c =
    pushed_on c.grow.new.stacks.items c.args.place c.args.node c.index_mut-stack.result.now c.push.new.self
    (omega (arith, c.in_ok-grow.ensures.enough, c.grow.new.stacks.ok.0))
    c.index_mut-stack.ensures.value c.in_ok-push.ensures.items
    ∙ ap (with_pair (c.args.place, c.args.node)) (c.grow.ensures.grown.same ∙ c.self.view_is)
