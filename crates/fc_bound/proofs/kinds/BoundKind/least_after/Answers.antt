use Rattle.std.proofs.Common.{◌≡◌, ℕ, ◌+◌, ◌-◌, cond, Some, refl, sym, ◌∙◌, ap, arith}
use Rattle.fc_position.specs.Board.{playable}
use Rattle.fc_bound.specs.Bound.{is_held_back}
use Rattle.fc_bound.proofs.FamilyAfter.{after_lift, after_put, after_home}
use Rattle.fc_bound.proofs.FamilyMoved.{small}
use Rattle.fc_bound.proofs.FareLemmas.{byte_is, byte_most}
use Rattle.fc_bound.proofs.kinds.BoundKind.least_after.Goals as goal

pub overflow_add-shown : goal.overflow_add-shown
overflow_add-shown c =
    omega (
      arith,
      small c.args.self c.args.position.now c.args.shown.number c.args.shown.note c.playable.ensures.whole c.requires.shown,
      byte_most c.is_held_there.result,
    )

pub returns-in-Home-clause-least : goal.returns-in-Home-clause-least
returns-in-Home-clause-least c g z step =
    let b = c.args.position.now in
    let kind = c.args.self in
    let shown = c.args.shown in
    let needed = c.is_needed-less in
    let p = needed.ensures.whole in
    let lift = after_lift kind b c.args.m.from step.card shown.number shown.note needed.result p step.playable
    (needed.ensures.held step.card step.playable) (needed.ensures.noted step.card step.playable) c.requires.shown in (
      lift.0 - 1,
      shown.note,
      after_home kind g b z c.args.m step.card lift.0 shown.note step p refl c.in-Home.is lift.1,
      omega (arith, c.saturating_sub.ensures, lift.2, byte_is needed.result),
    )

pub returns-in_default-to : goal.returns-in_default-to
returns-in_default-to c = record {
  whole = c.playable.ensures.whole;
  least = λ g z step.
      let b = c.args.position.now in
      let kind = c.args.self in
      let shown = c.args.shown in
      let needed = c.is_needed-less in
      let p = needed.ensures.whole in
      let there : playable b c.args.m.from ≡ Some c.in-Some.card = sym c.playable.ensures.value ∙ c.in-Some.is in
      let same : step.card ≡ c.in-Some.card = let x = sym step.playable ∙ there in cc in
      let lift = after_lift kind b c.args.m.from step.card shown.number shown.note needed.result p step.playable
      (needed.ensures.held step.card step.playable) (needed.ensures.noted step.card step.playable) c.requires.shown in
      let held = c.is_held_there.ensures.value g z c.args.m step same refl c.in_default-to.not-Home in
      let counted : ◌≡◌ {A = ℕ} (cond c.is_held_there.result 1 0) (cond (is_held_back z step.card) 1 0) =
      ap (λ t. cond t 1 0) (held ∙ ap (is_held_back z) (sym same)) in (
        lift.0 + cond (is_held_back z step.card) 1 0,
        shown.note,
        after_put kind g b z c.args.m step.card lift.0 shown.note step p refl c.in_default-to.not-Home lift.1,
        omega (arith, c.saturating_sub-in_default-to.ensures, lift.2, byte_is needed.result, byte_is c.is_held_there.result, counted),
      );
}
