use Rattle.std.proofs.Common.{subst}
use Rattle.fc_best.specs.inner.Attempt.{floor_of}
use Rattle.fc_best.specs.inner.Watch.{IsAfter}
use Rattle.fc_best.proofs.StandingLemmas.{after_rises, after_stands}
use Rattle.fc_best.proofs.standings.Standing.after.Goals as goal

pub returns-clause-stands : goal.returns-clause-stands
returns-clause-stands c q kind b weight share stands within attempt further =
    let old = c.args.self in
    let one = c.args.attempt in
    let list = c.shorter-list.result in
    let far = c.progress_after-far.result in
    let after = subst (λ n. IsAfter c.args.far (floor_of one.shown) n far) c.limit_of.ensures.value
    (subst (λ f. IsAfter c.args.far f c.limit_of.result far) c.floor_of.ensures.value c.progress_after-far.ensures.after) in
    after_stands q kind b weight share old one c.args.far far list c.newest.result c.greater.result stands further after c.shorter-list.ensures.shorter
    c.newest.ensures.value c.greater.ensures.value c.requires.open within c.requires.room c.requires.raised c.requires.tabled c.requires.bare attempt

pub returns-clause-rises : goal.returns-clause-rises
returns-clause-rises c q b stands further =
    let old = c.args.self in
    let list = c.shorter-list.result in
    let far = c.progress_after-far.result in
    let after = subst (λ n. IsAfter c.args.far c.floor_of.result n far) c.limit_of.ensures.value c.progress_after-far.ensures.after in
    after_rises q b old c.args.attempt.list list c.args.far far c.floor_of.result stands further c.shorter-list.ensures.shorter after
