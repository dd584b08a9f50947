use Rattle.std.proofs.Common.{◌≡◌, ◌+◌, ◌≤◌}
use Rattle.fc_bound.specs.Clearing.{cards_in}
use Rattle.fc_bound.specs.Knots.{knot_count}
use Rattle.fc_bound.specs.inner.Rows.{AreLow, waiting_in}
use Rattle.fc_bound.proofs.knots.loosen.Given as goal

abbrev pub invariant-loop-u : goal.invariant-loop-u
invariant-loop-u l = record {
  low : AreLow l.lows l.left;
  count : knot_count l.fn.left + waiting_in l.left ≡ knot_count l.left + waiting_in l.fn.left;
  fewer : cards_in l.left ≤ cards_in l.fn.left;
}

abbrev pub decreases-loop-u : goal.decreases-loop-u
decreases-loop-u l = cards_in l.left
