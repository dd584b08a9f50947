use Rattle.std.proofs.Common.{◌<◌, ◌^◌}
use Rattle.fc_bound.specs.declared.kinds.BoundKind.TheVariants.{Clearing}
use Rattle.fc_bound.specs.Kinds.{IsShown}
use Rattle.fc_bound.proofs.rings.counted.Given as goal

abbrev pub invariant-loop : goal.invariant-loop
invariant-loop l = record {
  shown : IsShown Clearing l.position l.shown.number l.shown.note;
  cards : l.shown.note < 2 ^ 52;
}
