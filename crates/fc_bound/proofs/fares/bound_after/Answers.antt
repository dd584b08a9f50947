use Rattle.std.proofs.Common.{refl, sym, ◌≡◌, ◌∙◌, arith}
use Rattle.fc_bound.proofs.FareLemmas.{bound_there, byte_most}
use Rattle.fc_bound.proofs.HeldLemmas.{bound_small}
use Rattle.fc_bound.proofs.fares.bound_after.Goals as goal

pub overflow_add-low : goal.overflow_add-low
overflow_add-low c = omega (arith, c.requires.bound, bound_small c.args.position.now, byte_most c.is_held_there-after.result)

pub returns-clause-value : goal.returns-clause-value
returns-clause-value c g z step away =
    let there = sym c.playable.ensures.value ∙ c.in_ok-card.was in
    let same : step.card ≡ c.in_ok-card.card = let x = sym step.playable ∙ there in cc in
    c.saturating_sub.ensures ∙ bound_there g c.args.position.now z c.args.m c.in_ok-card.card c.args.low c.is_held_back-before.result c.is_held_there-after.result step
    c.is_held_back-before.ensures.whole away there c.requires.bound c.is_held_back-before.ensures.value
    (c.is_held_there-after.ensures.value g z c.args.m step same refl away)
