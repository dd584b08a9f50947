use Rattle.std.proofs.Common.{◌≡◌, ◌∙◌, ap, sym, length}
use Rattle.fc_frontier.proofs.QueueLemmas.{length-in_order}
use Rattle.fc_frontier.proofs.lists.ListFrontierFrontier.len.Goals as goal

pub returns-clause-size : goal.returns-clause-size
returns-clause-size c =
    let size : length c.self.inside.pairs.items ≡ length c.args.self.now =
    sym (length-in_order c.self.inside.pairs.items) ∙ ap length c.self.view_is in
    c.len.ensures ∙ c.self.inside.pairs.ok.0 ∙ size
