use Rattle.std.proofs.Common.{◌≡◌, ℕ, ◌<◌, ◌^◌, bit_and, get_or}
use Rattle.std.specs.Int.{bit_at}
use Rattle.fc_bound.specs.Rows.{no_row}
use Rattle.fc_bound.proofs.waiting_rows.ColumnTable.covers.Given as goal

-- the bits are those of the last cards that lie on one, and are no more among the rest
abbrev pub invariant-loop-rest : goal.invariant-loop-rest
invariant-loop-rest l = record {
  below : l.rest < 2 ^ 52;
  some : (c : ℕ) → bit_at l.rest c ≡ 1 → bit_at l.self.marks.lasts c ≡ 1;
  on : (c : ℕ) → bit_at l.covers c ≡ 1 → (bit_at l.self.marks.lasts c ≡ 1) × (0 < bit_and (get_or l.self.rows c no_row).beneath l.cards);
  each : (c : ℕ) → bit_at (bit_and l.self.marks.lasts 4503599627370495) c ≡ 1 → (bit_at l.rest c ≡ 1 → ⊥)
      → 0 < bit_and (get_or l.self.rows c no_row).beneath l.cards → bit_at l.covers c ≡ 1;
}

abbrev pub decreases-loop-rest : goal.decreases-loop-rest
decreases-loop-rest l = l.rest
