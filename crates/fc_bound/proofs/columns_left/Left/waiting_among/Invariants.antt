use Rattle.std.proofs.Common.{◌≡◌, ℕ, true, [], get_or, Some}
use Rattle.std.specs.Int.{bit_at}
use Rattle.fc_position.specs.Board.{last_of}
use Rattle.fc_bound.specs.Knots.{waits_in, waits_among}
use Rattle.fc_bound.specs.inner.Rows.{is_set}
use Rattle.fc_bound.proofs.columns_left.Left.waiting_among.Given as goal

-- the bits are those of the last cards that wait in the column of one that is no more among the rest
abbrev pub invariant-loop-rest : goal.invariant-loop-rest
invariant-loop-rest l = record {
  some : (w : ℕ) → bit_at l.rest w ≡ 1 → bit_at l.set w ≡ 1;
  wait : (u i : ℕ) → last_of (get_or l.self i []) ≡ Some u → bit_at l.waiting u ≡ 1 → waits_among l.self (is_set l.set) (get_or l.self i []) ≡ true;
  each : (u i v j : ℕ) → last_of (get_or l.self i []) ≡ Some u → last_of (get_or l.self j []) ≡ Some v → bit_at l.set v ≡ 1
      → (bit_at l.rest v ≡ 1 → ⊥) → waits_in (get_or l.self i []) (get_or l.self j []) ≡ true → bit_at l.waiting u ≡ 1;
}

abbrev pub decreases-loop-rest : goal.decreases-loop-rest
decreases-loop-rest l = l.rest
