use Rattle.std.proofs.Common.{◌≡◌, ◌+◌, ◌-◌, ◌≤◌, min, subst, arith}
use Rattle.fc_bound.specs.Kinds.{guide_of}
use Rattle.fc_bound.proofs.KindLemmas.{guides_under}
use Rattle.fc_checker.proofs.FarLemmas.{counted_within, tested, tested_back}
use Rattle.fc_checker.proofs.record_steps.is_seen_far.Goals as goal

pub returns-clause-value : goal.returns-clause-value
returns-clause-value c =
    let x = c.args.position.now in
    let kind = c.args.certificate.now.head.bound in
    let lower = subst (λ h. c.guide_within.result ≤ guide_of h.bound x) c.head.ensures.value c.guide_within.ensures.lower in
    let exact = subst (λ h. c.guide_within.result ≤ c.min-most.result → c.guide_within.result ≡ guide_of h.bound x) c.head.ensures.value
    c.guide_within.ensures.exact in
    let near : c.args.moves + 1 ≤ c.args.level = omega (arith, c.in-Some.ensures) in
    let is : c.min-most.result ≡ min (c.args.level - (c.args.moves + 1)) 104 = omega (arith, c.in-Some.ensures) in
    let told = counted_within c.args.level c.args.moves c.min-most.result (guide_of kind x) c.guide_within.result lower exact
    c.guide_within.ensures.greatest near is in (
      λ true. told.0 (tested c.min-most.result c.guide_within.result true),
      λ far. tested_back c.min-most.result c.guide_within.result (told.1 far),
    )

pub returns-clause-seen : goal.returns-clause-seen
returns-clause-seen c =
    let x = c.args.position.now in
    let kind = c.args.certificate.now.head.bound in
    let under = guides_under kind x c.guide_within.ensures.whole in
    λ true. let far = (returns-clause-value c).0 true in omega (arith, under, far)
