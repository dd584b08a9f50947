use Rattle.std.proofs.Common.{◌∙◌, ap}
use Rattle.fc_frontier.specs.Queue.{with_pair, in_order}
use Rattle.fc_frontier.proofs.QueueLemmas.{in_order-push, inserted-adds_to}
use Rattle.fc_frontier.proofs.lists.ListFrontierFrontier.push.Goals as goal

pub returns-clause-order : goal.returns-clause-order
returns-clause-order c = ap in_order c.in_ok-push.ensures.items
    ∙ in_order-push (c.args.f, c.args.node) c.self.inside.pairs.items
    ∙ ap (with_pair (c.args.f, c.args.node)) c.self.view_is

pub returns-clause-added : goal.returns-clause-added
returns-clause-added c = inserted-adds_to (c.args.f, c.args.node) c.args.self.now _ (returns-clause-order c)
