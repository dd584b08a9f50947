use Rattle.std.proofs.Common.{◌≡◌, ◌<◌, ◌^◌, ℕ}
use Rattle.std.specs.Int.{bit_at}
use Rattle.fc_bound.specs.declared.kinds.BoundKind.TheVariants.{Clearing}
use Rattle.fc_bound.specs.Kinds.{IsShown}
use Rattle.fc_bound.specs.inner.Tied.{IsWithin}
use Rattle.fc_bound.proofs.rings.counted_among.Given as goal

-- what is left is of the cards, and so is what is shown
abbrev pub invariant-loop-left : goal.invariant-loop-left
invariant-loop-left l = record {
  below : l.left < 2 ^ 52;
  within : IsWithin l.left l.cards;
  shown : IsShown Clearing l.position l.shown.number l.shown.note;
  cards : l.shown.note < 2 ^ 52;
  apart : (c : ℕ) → bit_at l.cards c ≡ 0 → bit_at l.shown.note c ≡ 0;
}

abbrev pub decreases-loop-left : goal.decreases-loop-left
decreases-loop-left l = l.left
