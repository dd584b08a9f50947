use Rattle.std.proofs.Common.{◌≡◌, ◌+◌, ◌≤◌, ◌↔◌, ℕ, IsTrue, refl, ◌∙◌, ap, subst, arith}
use Rattle.fc_bound.specs.Kinds.{guide_of, low_of}
use Rattle.fc_bound.proofs.KindLemmas.{guides_under}
use Rattle.fc_home.proofs.RuleLemmas.{refuted}
use Rattle.fc_checker.proofs.StepLemmas.{far_steps, held_steps, near_steps, told_by}
use Rattle.fc_checker.proofs.certificate_checks.steps_hold_below.Goals as goal

pub returns-then-from : goal.returns-then-from
returns-then-from g c =
    let content = c.args.certificate.now in
    let x = c.args.position.now in
    let guide : c.guide_within-guide.result ≡ guide_of content.head.bound x =
    c.guide_within-guide.ensures.exact c.guide_within-guide.ensures.greatest ∙ ap (λ h. guide_of h.bound x) c.head-kind.ensures.value in
    let under = guides_under content.head.bound x c.guide_within-guide.ensures.whole in
    let far : c.args.level ≤ c.args.cost + low_of content.head.bound x = omega (arith, guide, under) in
    record {
      value = λ same. (
        λ true. far_steps (g.G.Game.game c.args.game.now) content x c.args.key.now c.args.cost c.args.level c.requires.level far same,
        λ holds. refl,
      );
    }

pub returns-then-steps_hold : goal.returns-then-steps_hold
returns-then-steps_hold g c =
    let rules = g.G.Game.game c.args.game.now in
    let content = c.args.certificate.now in
    record {
      value = λ same. (
        λ true. held_steps rules content c.args.position.now c.args.key.now c.args.cost c.args.level c.requires.level
            (c.steps_hold.ensures.value.0 c.if-steps_hold.true) same,
        λ holds. refl,
      );
    }

pub returns : goal.returns
returns g c =
    let rules = g.G.Game.game c.args.game.now in
    let content = c.args.certificate.now in
    let x = c.args.position.now in
    let reach = subst (λ b. IsTrue c.is_far.result ↔ (c.args.level ≤ c.args.cost + low_of content.head.bound b)) c.steps_hold.ensures.same
    (subst (λ (n : ℕ). IsTrue c.is_far.result ↔ (c.args.level ≤ n + low_of content.head.bound c.steps_hold.new.position)) c.from-4.ensures
    c.is_far.ensures.value) in
    let stuck = refuted c.steps_hold.result c.steps_hold.ensures.value c.if-steps_hold.false in
    record {
      value = λ same. (
        λ true. far_steps rules content x c.args.key.now c.args.cost c.args.level c.requires.level (reach.0 true) same,
        λ holds. told_by (c.args.level ≤ c.args.cost + low_of content.head.bound x) c.is_far.result reach
            (λ near. stuck (near_steps rules content x c.args.key.now c.args.cost c.args.level c.requires.level near same holds)),
      );
    }
