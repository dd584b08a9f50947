use Rattle.std.proofs.Common.{◌≡◌, ◌≤◌, sym, subst}
use Rattle.fc_bound.specs.Kinds.{low_of}
use Rattle.fc_codes.specs.Spelled.{board_of_code}
use Rattle.fc_space.specs.Children.{Frame, frame_of}
use Rattle.fc_space.proofs.ChildLemmas.{IsFrame, least_at}
use Rattle.fc_space.proofs.class_space.PositionsSpaceCode.least.Goals as goal

pub returns : goal.returns
returns g c =
    let own = c.args.self.now in
    let w = frame_of (g.G.Game.game own.rules.game) own.rules.rule own.rules.kind own.start in
    let f : IsFrame w = record { sound = g.met.G.Game.sound own.rules.game; fits = own.fits } in
    let walk = c.args.walk.now in
    let v = frame_of (g.G.Game.game walk.game) walk.rule walk.kind walk.start in
    let here : v ≡ w = c.requires.owned in
    record {
      least = λ y at.
          subst (λ (u : Frame). c.least.result ≤ low_of u.kind (board_of_code u.start y)) here
          (least_at v walk.position walk.last y c.least.result (subst IsFrame (sym here) f) c.least.ensures.fits at c.least.ensures.least c.least.ensures.none);
    }
