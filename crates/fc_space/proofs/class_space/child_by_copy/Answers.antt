use Rattle.std.proofs.Common.{arith, subst}
use Rattle.fc_moves.specs.Step.{Step}
use Rattle.fc_space.proofs.class_space.child_by_copy.Goals as goal

pub returns-clause-child : goal.returns-clause-child
returns-clause-child g c s after =
    let rules = g.G.Game.game c.args.rules.now.game in
    let z = c.apply.new.position in
    let step = subst (λ b. Step rules b c.args.m z) c.copy-next.ensures.value c.apply.ensures.step in
    let (q, count, settles, code, cost) = c.settled.ensures.settled s (after z step) in
    (z, step, (q, count, settles, code, omega (arith, cost)))
