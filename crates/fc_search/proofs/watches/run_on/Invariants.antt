use Rattle.std.proofs.Common.{◌≡◌, ℕ, ◌+◌, ◌≤◌}
use Rattle.fc_best_first.specs.declared.turns.Status.TheVariants.{Running}
use Rattle.fc_best_first.specs.Turn.{work_left}
use Rattle.fc_search.specs.Watch.{TurnsMany, stage_of}
use Rattle.fc_search.proofs.watches.run_on.Given as goal

abbrev pub invariant-loop-made : goal.invariant-loop-made
invariant-loop-made g l =
    let first = l.initial.search in
    record {
      problem : l.search.problem ≡ first.problem;
      status : l.search.status ≡ Running;
      turned : (before : ℕ) → TurnsMany l.made first.problem (stage_of first before) (stage_of l.search (before + l.made));
      falls : l.made + work_left first.problem.method.strategy.budget l.search.store ≤ work_left first.problem.method.strategy.budget first.store;
    }
