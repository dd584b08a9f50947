use Rattle.std.proofs.Common.{◌≡◌, ◌+◌, ◌≤◌, List}
use Rattle.fc_best_first.specs.declared.turns.Status.TheVariants.{Running}
use Rattle.fc_best_first.specs.Turn.{work_left}
use Rattle.fc_search.specs.declared.listeners.Progress.{Progress}
use Rattle.fc_search.specs.Watch.{HearsAll, HearsFar, IsHeard, stage_of}
use Rattle.fc_search.proofs.HearLemmas.{most_of}
use Rattle.fc_search.proofs.watches.watch.Given as goal

abbrev pub invariant-loop-step : goal.invariant-loop-step
invariant-loop-step g l =
    let first = l.initial.search in
    record {
      problem : l.search.problem ≡ first.problem;
      status : l.search.status ≡ Running;
      falls : l.turns + work_left first.problem.method.strategy.budget l.search.store ≤ work_left first.problem.method.strategy.budget first.store;
      heard : (heard : List Progress) × HearsAll (HearsFar g.L.Listener.hears) l.initial.listener heard l.listener × (l.most_open ≡ most_of 0 heard)
          × IsHeard first.problem (stage_of first 0) 0 heard (stage_of l.search l.turns);
    }

abbrev pub decreases-loop-step : goal.decreases-loop-step
decreases-loop-step g l = work_left l.search.problem.method.strategy.budget l.search.store
