use Rattle.std.proofs.Common.{◌≡◌, ℕ, max, arith}
use Rattle.std.specs.Int.{bit_at}
use Rattle.std.proofs.lemmas.Nat.{or_lt}
use Rattle.std.proofs.lemmas.Nat.Bits.{bit_at_or}
use Rattle.fc_bound.specs.declared.kinds.BoundKind.TheVariants.{Clearing}
use Rattle.fc_bound.specs.inner.Tied.{IsWithin}
use Rattle.fc_bound.proofs.FamilyRows.{stands_below}
use Rattle.fc_bound.proofs.FamilyShown.{IsNewRing, none_outside, shown_more, shown_small}
use Rattle.fc_bound.proofs.TiedLemmas.{within_least}
use Rattle.fc_bound.proofs.rings.Shown.with_ring.Goals as goal

pub overflow_add-result : goal.overflow_add-result
overflow_add-result c =
    let b = c.args.position.now in
    omega (
      arith,
      shown_small Clearing b c.args.self.number c.args.self.note (λ d stands. stands_below b d c.able.ensures.whole stands) c.requires.shown,
    )

pub returns-clause-shown : goal.returns-clause-shown
returns-clause-shown c =
    let b = c.args.position.now in
    let ring = c.args.ring in
    let within : IsWithin ring c.able.result = λ d set. none_outside ring c.able.result d c.ranges.ring.fits c.able.type_inv c.if-ring-able-ne0.false set in
    let new : IsNewRing b c.args.table.now c.args.self.note ring = record {
      some = omega (arith, c.if-ring-eq0.false);
      fits = c.ranges.ring.fits;
      stand = λ d set. c.able.ensures.stand d (within d set);
      free = λ d set. c.able.ensures.free d (within d set);
      apart = λ d set. c.able.ensures.apart d (within d set);
      tied = c.requires.tied;
    } in
    shown_more b c.args.table.now c.args.self.number c.args.self.note ring c.able.ensures.whole c.requires.table new c.requires.shown

neither : (m n k : ℕ) → k ≡ max m n → m ≡ 0 → n ≡ 0 → k ≡ 0
neither m n k is one two = omega arith

pub returns-clause-apart : goal.returns-clause-apart
returns-clause-apart c d one two = neither (bit_at c.args.self.note d) (bit_at c.args.ring d) _ (bit_at_or c.args.self.note c.args.ring d) one two

pub returns-clause-cards : goal.returns-clause-cards
returns-clause-cards c small =
    let ring = c.args.ring in
    let within : IsWithin ring c.able.result = λ d set. none_outside ring c.able.result d c.ranges.ring.fits c.able.type_inv c.if-ring-able-ne0.false set in
    or_lt 52 c.args.self.note ring small (omega (arith, within_least ring c.able.result within, c.able.ensures.below))
