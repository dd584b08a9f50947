use Rattle.std.proofs.Common.{subst}
use Rattle.fc_best_first.specs.Search.{task_of}
use Rattle.fc_best_first.specs.Shown.{IsLeastOpen}
use Rattle.fc_best_first.proofs.searches.Search.least_open.Goals as goal

pub returns : goal.returns
returns g c = record {
  value = subst (λ s. IsLeastOpen (task_of g.S.Space.graph s) s.store c.args.most c.least_open.result) c.self.view_is
      (c.least_open.ensures.value c.self.inside.limit);
}
