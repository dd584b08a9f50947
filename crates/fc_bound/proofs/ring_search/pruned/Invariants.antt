use Rattle.std.proofs.Common.{◌≡◌, ◌↔◌, ℕ, ◌<◌, ◌^◌, List}
use Rattle.std.specs.Int.{bit_at}
use Rattle.fc_bound.specs.Rings.{IsAmong}
use Rattle.fc_bound.specs.inner.Tied.{IsTied, AreTiedBy, IsWithin}
use Rattle.fc_bound.proofs.ring_search.pruned.Given as goal

-- each ring of the cards is left, and the tied ones of what is left come next
abbrev pub invariant-loop-next : goal.invariant-loop-next
invariant-loop-next l = record {
  below : l.left < 2 ^ 52;
  within : IsWithin l.left l.cards;
  rings : (ring : List ℕ) → AreTiedBy l.rows ring → IsAmong l.cards ring → IsAmong l.left ring;
  ties : (c : ℕ) → (bit_at l.next c ≡ 1) ↔ IsTied l.rows l.left c;
}

abbrev pub decreases-loop-next : goal.decreases-loop-next
decreases-loop-next l = l.left
