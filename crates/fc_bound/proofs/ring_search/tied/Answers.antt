use Rattle.std.proofs.Common.{◌≡◌, ◌≢◌, ℕ, ◌*◌, ◌%◌, ◌^◌, bit_and, get_or, sym, ◌∙◌, ap, subst, ⊎_elim, arith}
use Rattle.std.specs.Int.{bit_at}
use Rattle.std.proofs.lemmas.Bool.{cases_eq}
use Rattle.std.proofs.lemmas.Nat.{and_le_r}
use Rattle.fc_bound.specs.Rows.{no_row}
use Rattle.fc_bound.specs.inner.Tied.{WaitsBy}
use Rattle.fc_bound.proofs.BitLemmas.{no_bits}
use Rattle.fc_bound.proofs.ShedLemmas.{still, kept}
use Rattle.fc_bound.proofs.TiedLemmas.{IsHost, in_both, in_first, in_second, or_first, or_second, or_either, only_bit, own_bit, lt64, guest_waits, host_here, tied_by}
use Rattle.fc_bound.proofs.ring_search.tied.Goals as goal
use Rattle.fc_bound.proofs.ring_search.tied.Goals.{then-guests-ne0, else-guests-ne0}

pub loop-rest-preserved : goal.loop-rest-preserved
loop-rest-preserved c =
    let rows = c.args.rows.now in
    let cards = c.args.cards in
    let card = c.least_card-card.result in
    let was = c.loop-rest.invariant in
    let own = was.some card c.least_card-card.ensures.set in
    let guests : ℕ = bit_and (get_or rows card no_row).waiting cards in
    let bit : ℕ = 1 * 2 ^ card % 2 ^ 64 in
    let gone : (e : ℕ) → (bit_at c.remove-rest.result e ≡ 1 → ⊥) → e ≢ card → bit_at c.loop-rest.rest e ≡ 1 → ⊥ =
    λ e out ne there. out (kept c.loop-rest.rest c.remove-rest.result card e c.remove-rest.ensures.value ne there) in
    record {
      below = omega (arith, c.remove-rest.ensures.less c.least_card-card.ensures.set, was.below);
      some = λ d set. was.some d (still c.loop-rest.rest c.remove-rest.result card d c.remove-rest.ensures.value set);
      host = λ e set.
          elim c.if-guests-ne0.branch [
            | then-guests-ne0 w ↦
                or_either (IsHost rows cards e) c.loop-rest.hosts bit e (sym (ap (λ n. bit_at n e) w.hosts-is) ∙ set) (was.host e)
                (λ here. subst (IsHost rows cards) (only_bit card e (lt64 c.least_card-card.ensures.below) here)
                (host_here rows cards card own (omega (arith, w.if-guests-ne0.true)) (omega (arith, and_le_r (get_or rows card no_row).waiting cards, c.ranges.cards.fits))))
            | else-guests-ne0 w ↦ was.host e (sym (ap (λ n. bit_at n e) w.hosts-is) ∙ set)
          ];
      hosts = λ e d e_own out d_own waits.
          elim c.if-guests-ne0.branch [
            | then-guests-ne0 w ↦
                ap (λ n. bit_at n e) w.hosts-is
                ∙ ⊎_elim (λ same. or_second c.loop-rest.hosts bit e (ap (bit_at bit) same ∙ own_bit card (lt64 c.least_card-card.ensures.below)))
                (λ ne. or_first c.loop-rest.hosts bit e (was.hosts e d e_own (gone e out ne) d_own waits))
                (cases_eq e card)
            | else-guests-ne0 w ↦
                ap (λ n. bit_at n e) w.hosts-is
                ∙ ⊎_elim (λ same. absurd (no_bits guests d w.if-guests-ne0.false
                (in_both (get_or rows card no_row).waiting cards d (subst (λ x. WaitsBy rows d x) same waits) d_own)))
                (λ ne. was.hosts e d e_own (gone e out ne) d_own waits)
                (cases_eq e card)
          ];
      guest = λ d set.
          or_either _ c.loop-rest.waiting guests d set (was.guest d) (λ here.
          let is = guest_waits rows cards card d here in
          record { own = is.0; host = card; host_own = own; waits = is.1 });
      guests = λ e d e_own out d_own waits.
          ⊎_elim
          (λ same. or_second c.loop-rest.waiting guests d
          (in_both (get_or rows card no_row).waiting cards d (subst (λ x. WaitsBy rows d x) same waits) d_own))
          (λ ne. or_first c.loop-rest.waiting guests d (was.guests e d e_own (gone e out ne) d_own waits))
          (cases_eq e card);
    }

pub returns : goal.returns
returns c = record {
  value = λ d.
      let rows = c.args.rows.now in
      let cards = c.args.cards in
      let was = c.loop-rest.invariant in
      let out : (e : ℕ) → bit_at c.loop-rest.rest e ≡ 1 → ⊥ = λ e. no_bits c.loop-rest.rest e c.loop-rest-test.false in (
        λ set. tied_by rows cards d (was.host d (in_first c.loop-rest.hosts c.loop-rest.waiting d set))
            (was.guest d (in_second c.loop-rest.hosts c.loop-rest.waiting d set)),
        λ t. in_both c.loop-rest.hosts c.loop-rest.waiting d (was.hosts d t.guest t.own (out d) t.guest_own t.awaited)
            (was.guests t.host d t.host_own (out t.host) t.own t.waits),
      );
}
