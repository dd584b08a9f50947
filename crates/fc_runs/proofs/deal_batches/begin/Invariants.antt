use Rattle.std.proofs.Common.{◌≡◌}
use Rattle.fc_runs.specs.inner.Batches.{HoldsDeals}
use Rattle.fc_runs.proofs.deal_batches.begin.Given as goal

-- so many searches were added
abbrev pub invariant-loop-i : goal.invariant-loop-i
invariant-loop-i g l = record {
  held : HoldsDeals l.fn.question l.fn.from l.i l.batch;
  added : l.batch.added ≡ l.i;
}
