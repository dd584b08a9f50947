use Rattle.std.proofs.Common.{◌≡◌, ℕ, ◌<◌, ◌≤◌, false, Some, length, take, get_or}
use Rattle.std.specs.Prelude.{◌&&◌}
use Rattle.fc_position.specs.Board.{last_of}
use Rattle.fc_bound.specs.Bound.{is_above_lower}
use Rattle.fc_bound.specs.Knots.{ends_with}
use Rattle.fc_bound.specs.Rows.{AreBits, AreWaiting, IsRow, no_row}
use Rattle.fc_bound.specs.inner.Rows.{stands_above}
use Rattle.fc_bound.proofs.waiting_rows.fill_above.Given as goal

abbrev pub invariant-loop-h : goal.invariant-loop-h
invariant-loop-h l = record {
  from : l.front ≤ l.h;
  end_is : l.h-end ≡ length l.cards;
  long : length l.rows ≡ 52;
  each : (k u : ℕ) → l.front < k → k ≤ l.h → last_of (take k l.cards) ≡ Some u → IsRow (get_or l.rows u no_row) (take k l.cards);
  others : (c : ℕ) → stands_above l.front (take l.h l.cards) c ≡ false → get_or l.rows c no_row ≡ get_or l.fn.rows c no_row;
  waiting : AreWaiting l.waiting (take l.h l.cards);
  stand : AreBits l.all (stands_above l.front (take l.h l.cards));
  end : AreBits l.last (λ c. ends_with c (last_of (take l.h l.cards)));
  above : AreBits l.held (λ c. is_above_lower c (take l.h l.cards) && stands_above l.front (take l.h l.cards) c);
}
