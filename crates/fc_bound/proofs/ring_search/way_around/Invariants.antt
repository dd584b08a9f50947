use Rattle.std.proofs.Common.{◌<◌, ◌^◌}
use Rattle.fc_bound.proofs.ring_search.way_around.Given as goal

abbrev pub invariant-loop-steps : goal.invariant-loop-steps
invariant-loop-steps l = record {
  left : l.left < 2 ^ 52;
  layer : l.layer < 2 ^ 52;
}
