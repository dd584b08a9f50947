use Rattle.std.proofs.Common.{refl, rules}
use Rattle.fc_best.proofs.RelayLemmas.{passed_on, told_last}
use Rattle.fc_best.proofs.relays.attempt_after.Goals as goal

pub returns-in_err-attempt-clause-heard : goal.returns-in_err-attempt-clause-heard
returns-in_err-attempt-clause-heard g c =
    passed_on g.L.Listener.hears c.args.question.now.game c.args.position.now _ _ c.below.new.listener (search rules) c.below.ensures.heard refl

pub returns-clause-far : goal.returns-clause-far
returns-clause-far g c =
    told_last g.L.Listener.hears c.args.question.now.game c.args.position.now _ c.below.new.listener c.below.ensures.heard refl

pub returns-clause-heard : goal.returns-clause-heard
returns-clause-heard g c =
    passed_on g.L.Listener.hears c.args.question.now.game c.args.position.now _ _ c.below.new.listener (search rules) c.below.ensures.heard refl
