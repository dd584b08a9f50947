use Rattle.std.proofs.Common.{sym, subst}
use Rattle.std.specs.Prelude.{IfSome, IsSome}
use Rattle.fc_best.specs.declared.attempts.Shown.{Shown}
use Rattle.fc_best.specs.inner.Attempt.{HasNoTable, Raises}
use Rattle.fc_best.proofs.AttemptLemmas.{looked_attempt, lost_bare, lost_raises, lost_tabled}
use Rattle.fc_best.proofs.attempts.Attempt.by_bound.Goals as goal

pub returns-clause-right : goal.returns-clause-right
returns-clause-right c q b weight share same is =
    looked_attempt q b weight share c.args.bound c.args.self c.lost_by-shown.result same c.lost_by-shown.ensures.value is

pub returns-clause-raised : goal.returns-clause-raised
returns-clause-raised c least =
    subst (λ o. IfSome o (λ (end : Shown). Raises least end.floor)) (sym c.lost_by-shown.ensures.value) (lost_raises c.args.bound least c.args.self.shown)

pub returns-clause-tabled : goal.returns-clause-tabled
returns-clause-tabled c made =
    subst (λ o. IfSome o (λ (end : Shown). IsSome end.table)) (sym c.lost_by-shown.ensures.value) (lost_tabled c.args.bound c.args.self.shown made)

pub returns-clause-bare : goal.returns-clause-bare
returns-clause-bare c none = subst HasNoTable (sym c.lost_by-shown.ensures.value) (lost_bare c.args.bound c.args.self.shown none)
