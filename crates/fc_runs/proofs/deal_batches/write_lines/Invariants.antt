use Rattle.std.proofs.Common.{◌≤◌, IsTrue}
use Rattle.fc_methods.specs.Method.{QuestionData}
use Rattle.fc_runs.specs.Batches.{IsRightOf}
use Rattle.fc_runs.specs.inner.Batches.{HaveEnded, HoldsDeals}
use Rattle.fc_runs.proofs.BatchLemmas.{AreWritten}
use Rattle.fc_runs.proofs.deal_batches.write_lines.Given as goal

-- so many lines are written
abbrev pub invariant-loop-i : goal.invariant-loop-i
invariant-loop-i g l = record {
  so_far : (q : QuestionData) → HoldsDeals q l.fn.from l.fn.count l.fn.batch
      → HaveEnded l.fn.count l.fn.batch
      → AreWritten (IsRightOf q) l.fn.from l.i (g.K.Sink.held l.initial.out) (g.K.Sink.held l.out) l.greatest;
  sound : 1 ≤ l.i → IsTrue (g.K.Sink.has_failed l.out) → ⊥;
}
