use Rattle.std.proofs.Common.{◌≡◌, ℕ, ◌+◌, cond, Some, sym, ◌∙◌, ap, arith}
use Rattle.fc_position.specs.Board.{playable}
use Rattle.fc_bound.specs.Bound.{is_held_back}
use Rattle.fc_bound.proofs.FamilyAfter.{after_lift, after_put}
use Rattle.fc_bound.proofs.FamilyMoved.{small}
use Rattle.fc_bound.proofs.FareLemmas.{byte_is, byte_most}
use Rattle.fc_bound.proofs.kinds.BoundKind.least_by.Goals as goal

pub overflow_add-shown : goal.overflow_add-shown
overflow_add-shown c =
    omega (
      arith,
      small c.args.self c.args.position.now c.args.shown.number c.args.shown.note c.is_held_on-there.ensures.whole c.requires.shown,
      byte_most c.is_held_on-there.result,
    )

pub returns-clause-least : goal.returns-clause-least
returns-clause-least c g z step =
    let b = c.args.position.now in
    let m = c.args.landing.now.m in
    let landing = c.requires.landing in
    let kind = c.args.self in
    let shown = c.args.shown in
    let needed = c.is_needed_by-less in
    let p = c.is_held_on-there.ensures.whole in
    let u = c.index-card.result in
    let there : playable b m.from ≡ Some u = landing.card ∙ ap (λ (n : ℕ). Some n) (sym c.index-card.ensures.value) in
    let same : step.card ≡ u = let x = sym step.playable ∙ there in cc in
    let lift = after_lift kind b m.from u shown.number shown.note needed.result p there needed.ensures.held needed.ensures.noted c.requires.shown in
    let held : ◌≡◌ {A = ℕ} (cond c.is_held_on-there.result 1 0) (cond (is_held_back z u) 1 0) =
    ap (λ t. cond t 1 0) (c.is_held_on-there.ensures.value g z m step same landing.away landing.host) in (
      lift.0 + cond (is_held_back z u) 1 0,
      shown.note,
      after_put kind g b z m u lift.0 shown.note step p same landing.away lift.1,
      omega (arith, c.saturating_sub.ensures, lift.2, byte_is needed.result, byte_is c.is_held_on-there.result, held),
    )
