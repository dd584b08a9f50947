use Rattle.std.proofs.Common.{◌≡◌, ◌+◌}
use Rattle.fc_bound.specs.Clearing.{cards_in}
use Rattle.fc_bound.specs.Knots.{knot_count}
use Rattle.fc_bound.specs.inner.Rows.{AreLow, waiting_in}
use Rattle.fc_bound.proofs.knots.knots_within.Given as goal

-- those that wait for a card beneath them have been counted before they are met
abbrev pub invariant-loop-count : goal.invariant-loop-count
invariant-loop-count l = record {
  low : AreLow l.lows l.left;
  counts : knot_count l.fn.left + waiting_in l.left ≡ l.count + knot_count l.left;
}

abbrev pub decreases-loop-count : goal.decreases-loop-count
decreases-loop-count l = cards_in l.left
