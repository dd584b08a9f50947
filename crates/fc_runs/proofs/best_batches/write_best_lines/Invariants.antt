use Rattle.std.proofs.Common.{◌≤◌, IsTrue}
use Rattle.fc_runs.specs.Batches.{IsBestLine}
use Rattle.fc_runs.proofs.BatchLemmas.{AreWritten}
use Rattle.fc_runs.proofs.best_batches.write_best_lines.Given as goal

-- so many lines are written
abbrev pub invariant-loop-i : goal.invariant-loop-i
invariant-loop-i g l = record {
  so_far : AreWritten (IsBestLine l.fn.question) l.fn.from l.i (g.K.Sink.held l.initial.out) (g.K.Sink.held l.out) l.greatest;
  sound : 1 ≤ l.i → IsTrue (g.K.Sink.has_failed l.out) → ⊥;
}
