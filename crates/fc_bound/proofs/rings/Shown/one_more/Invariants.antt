use Rattle.std.proofs.Common.{◌<◌, ◌^◌}
use Rattle.fc_bound.specs.inner.Tied.{IsWithin}
use Rattle.fc_bound.proofs.rings.Shown.one_more.Given as goal

abbrev pub invariant-loop-rest : goal.invariant-loop-rest
invariant-loop-rest l = record {
  below : l.rest < 2 ^ 52;
  within : IsWithin l.rest l.able;
}

abbrev pub decreases-loop-rest : goal.decreases-loop-rest
decreases-loop-rest l = l.rest
