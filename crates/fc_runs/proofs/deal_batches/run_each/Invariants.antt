use Rattle.std.proofs.Common.{◌≡◌, ◌≤◌, ◌<◌, ℕ, true, false}
use Rattle.fc_methods.specs.Method.{QuestionData}
use Rattle.fc_batch.specs.Batch.{work_left}
use Rattle.fc_runs.specs.inner.Batches.{HaveEnded, HoldsDeals}
use Rattle.fc_runs.proofs.deal_batches.run_each.Given as goal

-- the searches so far had their turn
abbrev pub invariant-loop-number : goal.invariant-loop-number
invariant-loop-number g l = record {
  held : (q : QuestionData) (from : ℕ) → HoldsDeals q from l.fn.count l.initial.batch
      → HoldsDeals q from l.fn.count l.batch;
  ended : l.is_running ≡ false → HaveEnded l.number l.batch;
  most : work_left l.batch ≤ work_left l.initial.batch;
  falls : l.is_running ≡ true → work_left l.batch < work_left l.initial.batch;
}
