use Rattle.std.proofs.Common.{subst}
use Rattle.fc_best_first.specs.Search.{task_of}
use Rattle.fc_best_first.specs.Shown.{TellsAt}
use Rattle.fc_best_first.proofs.searches.Search.told_by.Goals as goal

pub returns : goal.returns
returns g c = record {
  told = subst (λ s. TellsAt (task_of g.S.Space.graph s) s.store c.args.number c.told_by.result) c.self.view_is
      (c.told_by.ensures.told c.self.inside.limit);
}
