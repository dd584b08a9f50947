use Rattle.std.proofs.Common.{rules, ◌≡◌, ◌≢◌, ◌+◌, ◌≤◌, true, Some, sym, ◌∙◌, ap, subst, arith}
use Rattle.std.specs.Prelude.{IfSome}
use Rattle.fc_cards.specs.declared.places.Place.TheVariants.{Home}
use Rattle.fc_position.specs.Board.{Board}
use Rattle.fc_moves.specs.GameRules.{GameRules}
use Rattle.fc_moves.specs.Step.{Step}
use Rattle.fc_bound.specs.Kinds.{guide_of, low_of}
use Rattle.fc_checker.specs.Check.{level}
use Rattle.fc_checker.proofs.FarLemmas.{step_far, tested_up}
use Rattle.fc_checker.proofs.record_steps.is_step_far.Goals as goal

pub returns-in-Some-plain_after : goal.returns-in-Some-plain_after
returns-in-Some-plain_after c =
    let content = c.args.certificate.now in
    let x = c.args.position.now in
    let m = c.args.m in
    let after = c.in-Some-plain_after.after in
    let known = subst (λ o. IfSome o (λ near. (level content ≡ Some near.level) × (near.guide ≡ guide_of content.head.bound x))) c.in-Some.is
    c.requires.near in
    let away : m.to ≢ Home = λ e. let is : c.eq.result ≡ true = search rules in cc in
    let told = subst (λ h. (g : GameRules) (y : Board) → Step g x m y → m.to ≢ Home → after ≤ low_of h.bound y) c.head.ensures.value
    c.in-Some-plain_after.ensures.lower in
    record {
      far = λ g true.
          let reach = tested_up c.from.result (c.from-in-Some-plain_after.result + 1 + c.from-in-Some-plain_after-2.result) true in
          step_far g content x m c.args.parent.now.cost c.in-Some.near.level after c.plain_after.ensures.whole known.0 away told (omega (arith, reach));
    }

pub plain_after-requires : goal.plain_after-requires
plain_after-requires c =
    let content = c.args.certificate.now in
    let x = c.args.position.now in
    let known = subst (λ o. IfSome o (λ near. (level content ≡ Some near.level) × (near.guide ≡ guide_of content.head.bound x))) c.in-Some.is
    c.requires.near in
    record { guide = known.1 ∙ sym (ap (λ h. guide_of h.bound x) c.head.ensures.value) }
