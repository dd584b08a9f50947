use Rattle.std.proofs.Common.{◌≡◌, ◌∙◌, ap, sym, length, map}
use Rattle.std.proofs.lemmas.List.{length-map}
use Rattle.fc_frontier.specs.inner.Tie.{placed_of}
use Rattle.fc_frontier.proofs.QueueLemmas.{length-in_order}
use Rattle.fc_frontier.proofs.tie_lists.TieList.len.Goals as goal

pub returns-clause-size : goal.returns-clause-size
returns-clause-size c =
    let size : length c.self.inside.entries.items ≡ length c.args.self.now =
    sym (length-map c.self.inside.entries.items placed_of) ∙ sym (length-in_order (map placed_of c.self.inside.entries.items))
    ∙ ap length c.self.view_is in
    c.len.ensures ∙ c.self.inside.entries.ok.0 ∙ size
