use Rattle.std.proofs.Common.{ℕ}
use Rattle.fc_methods.specs.Method.{QuestionData}
use Rattle.fc_batch.specs.Batch.{work_left}
use Rattle.fc_runs.specs.inner.Batches.{HoldsDeals}
use Rattle.fc_runs.proofs.deal_batches.run_to_end.Given as goal

-- the searches are of the deals of which they were
abbrev pub invariant-loop : goal.invariant-loop
invariant-loop g l = (q : QuestionData) (from : ℕ) → HoldsDeals q from l.fn.count l.initial.batch
    → HoldsDeals q from l.fn.count l.batch

abbrev pub decreases-loop : goal.decreases-loop
decreases-loop g l = work_left l.batch
