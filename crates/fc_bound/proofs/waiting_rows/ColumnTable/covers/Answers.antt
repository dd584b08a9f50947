use Rattle.std.proofs.Common.{◌≡◌, ℕ, ◌*◌, ◌%◌, ◌^◌, ◌<◌, bit_and, get_or, refl, ◌∙◌, ap, subst, ⊎_elim, arith}
use Rattle.std.specs.Int.{bit_at}
use Rattle.std.proofs.lemmas.Bool.{cases_eq}
use Rattle.std.proofs.lemmas.Nat.{and_le_r}
use Rattle.fc_bound.specs.Rows.{no_row}
use Rattle.fc_bound.proofs.BitLemmas.{no_bits}
use Rattle.fc_bound.proofs.OverTable.{covers_on, on_covers}
use Rattle.fc_bound.proofs.ShedLemmas.{still, kept}
use Rattle.fc_bound.proofs.TiedLemmas.{in_first, or_first, or_second, or_either, only_bit, own_bit, lt64}
use Rattle.fc_bound.proofs.waiting_rows.ColumnTable.covers.Goals as goal

pub loop-rest-init : goal.loop-rest-init
loop-rest-init c = record {
  below = omega (arith, and_le_r c.args.self.now.marks.lasts 4503599627370495);
  some = λ d set. in_first c.args.self.now.marks.lasts 4503599627370495 d set;
  on = λ d set. absurd (no_bits 0 d refl set);
  each = λ d set out _. absurd (out set);
}

pub loop-rest-preserved-then-self-card-ne0 : goal.loop-rest-preserved-then-self-card-ne0
loop-rest-preserved-then-self-card-ne0 c =
    let card = c.least_card-card.result in
    let was = c.loop-rest.invariant in
    let bit : ℕ = 1 * 2 ^ card % 2 ^ 64 in
    let t = c.args.self.now in
    let own : (bit_at t.marks.lasts card ≡ 1) × (0 < bit_and (get_or t.rows card no_row).beneath c.args.cards) =
    (was.some card c.least_card-card.ensures.set, omega (arith, c.if-self-card-ne0.true)) in
    record {
      below = omega (arith, c.remove-rest.ensures.less c.least_card-card.ensures.set, was.below);
      some = λ d set. was.some d (still c.loop-rest.rest c.remove-rest.result card d c.remove-rest.ensures.value set);
      on = λ d set. or_either _ c.loop-rest.covers bit d set (was.on d)
          (λ here. subst (λ e. (bit_at t.marks.lasts e ≡ 1) × (0 < bit_and (get_or t.rows e no_row).beneath c.args.cards))
          (only_bit card d (lt64 c.least_card-card.ensures.below) here) own);
      each = λ d set out on. ⊎_elim
          (λ same. or_second c.loop-rest.covers bit d (ap (bit_at bit) same ∙ own_bit card (lt64 c.least_card-card.ensures.below)))
          (λ ne. or_first c.loop-rest.covers bit d (was.each d set
          (λ there. out (kept c.loop-rest.rest c.remove-rest.result card d c.remove-rest.ensures.value ne there)) on))
          (cases_eq d card);
    }

pub returns : goal.returns
returns c = record {
  value = λ b p table u.
      let was = c.loop-rest.invariant in
      let t = c.args.self.now in (
        λ set. covers_on b t c.args.cards u table c.ranges.cards.fits (was.on u set).0 (was.on u set).1,
        λ on. let is = on_covers b t c.args.cards u p table c.ranges.cards.fits on in
            was.each u is.0 (no_bits c.loop-rest.rest u c.loop-rest-test.false) is.1,
      );
}
