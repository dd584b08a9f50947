use Rattle.std.proofs.Common.{IsTrue, ◌≡◌, ℕ, subst}
use Rattle.std.specs.Prelude.{nat_eq}
use Rattle.fc_canonical.specs.inner.Parts.{times_in, times_due}
use Rattle.fc_canonical.proofs.SetLemmas.{full_set}
use Rattle.fc_canonical.proofs.card_sets.CardSet.is_full.Goals as goal

pub returns : goal.returns
returns c = record {
  value = subst (λ n. (IsTrue (nat_eq c.self.inside.bits 0xF_FFFF_FFFF_FFFF) → (k : ℕ) → times_in n k ≡ times_due k)
      × (((k : ℕ) → times_in n k ≡ times_due k) → IsTrue (nat_eq c.self.inside.bits 0xF_FFFF_FFFF_FFFF)))
      c.self.view_is (full_set c.self.inside.bits c.self.invariant);
}
