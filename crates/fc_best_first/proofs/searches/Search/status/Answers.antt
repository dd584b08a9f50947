use Rattle.std.proofs.Common.{subst}
use Rattle.fc_best_first.specs.Graph.{Task}
use Rattle.fc_best_first.specs.Search.{task_of}
use Rattle.fc_best_first.specs.Shown.{Holds, Shows}
use Rattle.fc_best_first.proofs.SearchLemmas.{holds_shows}
use Rattle.fc_best_first.proofs.searches.Search.status.Goals as goal

pub returns-clause-holds : goal.returns-clause-holds
returns-clause-holds g c =
    subst (λ p. Holds (task_of g.S.Space.graph p) p.store p.status) c.self.view_is c.self.invariant.2

pub returns-clause-shows : goal.returns-clause-shows
returns-clause-shows g c =
    let task : Task g.row.K.Denot = record { graph = g.S.Space.graph c.self.inside.space; strategy = c.self.inside.strategy; limit = c.self.inside.limit } in
    subst (λ p. Shows (task_of g.S.Space.graph p) p.store p.status) c.self.view_is
    (holds_shows task (g.met.S.Space.lawful c.self.inside.space) c.self.invariant.0.above c.self.inside.book c.self.inside.status c.self.invariant.2)
