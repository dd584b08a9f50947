use Rattle.std.proofs.Common.{◌≡◌, ℕ, ◌<◌, ◌^◌, length, get_or}
use Rattle.std.specs.Int.{bit_at}
use Rattle.fc_bound.specs.Rows.{no_row}
use Rattle.fc_bound.proofs.waiting_rows.restore.Given as goal

-- of the cards that are no more among the rest the rows are taken
abbrev pub invariant-loop-rest : goal.invariant-loop-rest
invariant-loop-rest l = record {
  below : l.rest < 2 ^ 52;
  long : length l.rows ≡ 52;
  some : (c : ℕ) → bit_at l.rest c ≡ 1 → bit_at l.cards c ≡ 1;
  taken : (c : ℕ) → bit_at l.cards c ≡ 1 → bit_at l.rest c ≡ 0 → get_or l.rows c no_row ≡ get_or l.others c no_row;
  kept : (c : ℕ) → bit_at l.cards c ≡ 0 → get_or l.rows c no_row ≡ get_or l.fn.rows c no_row;
}

abbrev pub decreases-loop-rest : goal.decreases-loop-rest
decreases-loop-rest l = l.rest
