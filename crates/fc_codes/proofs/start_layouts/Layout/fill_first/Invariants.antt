use Rattle.std.proofs.Common.{◌≡◌, ℕ, ◌≤◌, length, drop}
use Rattle.std.specs.Int.{bit_at}
use Rattle.fc_codes.specs.inner.Bits.{cards_of}
use Rattle.fc_codes.proofs.StackLemmas.{AreDone}
use Rattle.fc_codes.proofs.start_layouts.Layout.fill_first.Given as goal

-- the columns so far are done, and the bits left are those of the cards that follow
abbrev pub invariant-loop-card : goal.invariant-loop-card
invariant-loop-card l = record {
  count : length l.columns ≡ 8;
  most : l.i ≤ length (cards_of l.deepest);
  left : cards_of l.rest ≡ drop l.i (cards_of l.deepest);
  bits : (c : ℕ) → bit_at l.rest c ≡ 1 → bit_at l.deepest c ≡ 1;
  done : AreDone l.self l.code l.i l.columns;
}

abbrev pub decreases-loop-card : goal.decreases-loop-card
decreases-loop-card l = length (cards_of l.rest)
