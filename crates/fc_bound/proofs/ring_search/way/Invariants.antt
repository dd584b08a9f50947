use Rattle.std.proofs.Common.{◌<◌}
use Rattle.fc_bound.proofs.ring_search.way.Given as goal

abbrev pub invariant-loop-layer : goal.invariant-loop-layer
invariant-loop-layer l = record {
  goes : (goal.iterator-loop-layer).can_next l.layer-iterator × (goal.iterator-loop-layer).is_finite l.layer-iterator;
  below : l.to < 52;
}
