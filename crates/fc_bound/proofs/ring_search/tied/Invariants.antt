use Rattle.std.proofs.Common.{◌≡◌, ℕ, ◌<◌, ◌^◌}
use Rattle.std.specs.Int.{bit_at}
use Rattle.fc_bound.specs.inner.Tied.{WaitsBy}
use Rattle.fc_bound.proofs.TiedLemmas.{IsHost, IsGuest}
use Rattle.fc_bound.proofs.ring_search.tied.Given as goal

-- the bits are those of the cards beneath which one waits, and of those that wait beneath one, that is no more among the rest
abbrev pub invariant-loop-rest : goal.invariant-loop-rest
invariant-loop-rest l = record {
  below : l.rest < 2 ^ 52;
  some : (c : ℕ) → bit_at l.rest c ≡ 1 → bit_at l.cards c ≡ 1;
  host : (e : ℕ) → bit_at l.hosts e ≡ 1 → IsHost l.rows l.cards e;
  hosts : (e c : ℕ) → bit_at l.cards e ≡ 1 → (bit_at l.rest e ≡ 1 → ⊥) → bit_at l.cards c ≡ 1 → WaitsBy l.rows c e → bit_at l.hosts e ≡ 1;
  guest : (c : ℕ) → bit_at l.waiting c ≡ 1 → IsGuest l.rows l.cards c;
  guests : (e c : ℕ) → bit_at l.cards e ≡ 1 → (bit_at l.rest e ≡ 1 → ⊥) → bit_at l.cards c ≡ 1 → WaitsBy l.rows c e → bit_at l.waiting c ≡ 1;
}

abbrev pub decreases-loop-rest : goal.decreases-loop-rest
decreases-loop-rest l = l.rest
