use Rattle.std.proofs.Common.{◌+◌, subst, sym, ap}
use Rattle.fc_space.specs.Children.{frame_of, StandsAt, last_move}
use Rattle.fc_space.specs.inner.Standing.{IsStanding}
use Rattle.fc_space.proofs.WalkLemmas.{shift_stands}
use Rattle.fc_space.proofs.WayLemmas.{code_moved}
use Rattle.fc_space.proofs.child_walks.Children.key.Goals as goal

pub returns-in-Shifted : goal.returns-in-Shifted
returns-in-Shifted g c =
    let inner = c.self.inside in
    let rules = g.G.Game.game inner.rules.game in
    let w = frame_of rules inner.rules.rule inner.rules.kind inner.layout in
    let at = subst (IsStanding w inner.position) c.in-Shifted.is c.self.invariant.5 in
    let landing = c.in-Shifted.landing in
    let code = c.code_after.result in
    let here = shift_stands w inner.position landing.m code at.0 at.1 (λ z step.
    code_moved inner.layout inner.code inner.position z landing.m rules code (g.met.G.Game.sound inner.rules.game) c.self.invariant.0.position
    c.self.invariant.4 step (λ y card moves. c.code_after.ensures.value inner.position y card at.2 moves)) in
    record {
      at = subst (λ v. StandsAt (frame_of (g.G.Game.game v.game) v.rule v.kind v.start) v.position v.last code) c.self.view_is
          (subst (λ l. StandsAt w inner.position l code) (sym (ap last_move c.in-Shifted.is)) here);
    }

pub returns-in-Settled : goal.returns-in-Settled
returns-in-Settled g c =
    let inner = c.self.inside in
    let rules = g.G.Game.game inner.rules.game in
    let w = frame_of rules inner.rules.rule inner.rules.kind inner.layout in
    let at = subst (IsStanding w inner.position) c.in-Settled.is c.self.invariant.5 in
    record {
      at = subst (λ v. StandsAt (frame_of (g.G.Game.game v.game) v.rule v.kind v.start) v.position v.last c.in-Settled.code) c.self.view_is
          (subst (λ l. StandsAt w inner.position l c.in-Settled.code) (sym (ap last_move c.in-Settled.is)) (1 + c.in-Settled.count, at));
    }
