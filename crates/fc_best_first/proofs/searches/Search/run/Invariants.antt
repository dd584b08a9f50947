use Rattle.std.proofs.Common.{◌≡◌}
use Rattle.fc_best_first.specs.declared.turns.Status.{Status}
use Rattle.fc_best_first.specs.Search.{Runs, task_of}
use Rattle.fc_best_first.specs.Store.{Store}
use Rattle.fc_best_first.specs.Turn.{work_left}
use Rattle.fc_best_first.proofs.searches.Search.run.Given as goal

abbrev pub invariant-loop : goal.invariant-loop
invariant-loop g l = record {
  space : l.self.space ≡ l.initial.self.space;
  strategy : l.self.strategy ≡ l.initial.self.strategy;
  limit : l.self.limit ≡ l.initial.self.limit;
  status : l.self.status ≡ l.initial.self.status;
  onward : (new : Store g.row.K.Denot) (after : Status g.row.K.Denot)
      → Runs (task_of g.S.Space.graph l.initial.self) l.self.status l.self.store new after
      → Runs (task_of g.S.Space.graph l.initial.self) l.initial.self.status l.initial.self.store new after;
}

abbrev pub decreases-loop : goal.decreases-loop
decreases-loop g l = work_left l.self.strategy.budget l.self.store
