use Rattle.std.proofs.Common.{arith, subst}
use Rattle.fc_bound.specs.Kinds.{IsShown}
use Rattle.fc_bound.proofs.RingLaws.{home_shows}
use Rattle.fc_space.proofs.child_walks.Children.sought.Goals as goal

pub overflow_sub-result : goal.overflow_sub-result
overflow_sub-result g c =
    let v = c.args.self.now in
    let p = c.kept-kept.ensures.fits in
    let (z, step) = c.requires.allowed in
    let kept = c.kept-kept.result in
    let s = home_shows v.kind (g.G.Game.game v.game) v.position z c.args.m kept.number kept.note p.position step c.in-Home.is c.kept-kept.ensures.kept in
    omega (arith, s.1)

pub returns-in-Home-clause-shown : goal.returns-in-Home-clause-shown
returns-in-Home-clause-shown g c z step =
    let v = c.args.self.now in
    let p = c.kept-kept.ensures.fits in
    let kept = c.kept-kept.result in
    let s = home_shows v.kind (g.G.Game.game v.game) v.position z c.args.m kept.number kept.note p.position step c.in-Home.is c.kept-kept.ensures.kept in
    subst (λ n. IsShown v.kind z n kept.note) (omega (arith, s.1)) s.2
