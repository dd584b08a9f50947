use Rattle.std.proofs.Common.{IsTrue}
use Rattle.fc_runs.specs.Tabling.{HearsRows}
use Rattle.fc_runs.proofs.TablingLemmas.{RowsAreWritten}
use Rattle.fc_runs.proofs.tabling.write_table.Given as goal

-- the names and so many rows are written, and the rows heard of
abbrev pub invariant-loop-i : goal.invariant-loop-i
invariant-loop-i g l = record {
  so_far : RowsAreWritten l.fn.question l.fn.from l.i (g.K.Sink.held l.fn.out) (g.K.Sink.held l.out)
      (HearsRows g.L.RowListener.hears l.fn.listener l.listener) l.greatest;
  sound : IsTrue (g.K.Sink.has_failed l.out) → ⊥;
}
