use Rattle.std.proofs.Common.{◌≡◌, ℕ, ◌<◌, ◌≤◌, [], Some, length, take, get_or}
use Rattle.std.specs.Prelude.{◌&&◌}
use Rattle.std.specs.List.{list_any}
use Rattle.fc_position.specs.Board.{last_of}
use Rattle.fc_bound.specs.Bound.{is_above_lower}
use Rattle.fc_bound.specs.Knots.{ends_among}
use Rattle.fc_bound.specs.Rows.{AreBits, AreRowsOf, IsRow, no_row, stands_among}
use Rattle.fc_bound.specs.inner.Rows.{is_set}
use Rattle.fc_bound.proofs.waiting_rows.fill_moved.Given as goal

abbrev pub invariant-loop-i : goal.invariant-loop-i
invariant-loop-i l = record {
  long : length l.rows ≡ 52;
  each : (j h u : ℕ) → j < l.i → last_of (take h (get_or l.position.columns j [])) ≡ Some u
      → IsRow (get_or l.rows u no_row) (take h (get_or l.position.columns j []));
  later : (j : ℕ) → l.i ≤ j → AreRowsOf l.moved (get_or l.position.columns j []) l.rows;
  stand : AreBits l.all (λ c. stands_among (take l.i l.position.columns) c && is_set l.moved c);
  ends : AreBits l.lasts (ends_among (take l.i l.position.columns));
  above : AreBits l.held (λ c. list_any (is_above_lower c) (take l.i l.position.columns) && is_set l.moved c);
}
