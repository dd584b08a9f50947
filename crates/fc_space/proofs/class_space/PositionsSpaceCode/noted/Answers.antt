use Rattle.std.proofs.Common.{◌≡◌, sym, subst}
use Rattle.fc_bound.specs.Kinds.{IsShown}
use Rattle.fc_codes.specs.Spelled.{board_of_code}
use Rattle.fc_space.specs.Children.{Frame, frame_of}
use Rattle.fc_space.proofs.ChildLemmas.{IsFrame, reached_code, shown_at}
use Rattle.fc_space.proofs.class_space.PositionsSpaceCode.noted.Goals as goal

pub returns-clause-shown : goal.returns-clause-shown
returns-clause-shown g c =
    let own = c.args.self.now in
    let w = frame_of (g.G.Game.game own.rules.game) own.rules.rule own.rules.kind own.start in
    let f : IsFrame w = record { sound = g.met.G.Game.sound own.rules.game; fits = own.fits } in
    let walk = c.args.walk.now in
    let v = frame_of (g.G.Game.game walk.game) walk.rule walk.kind walk.start in
    let here : v ≡ w = c.requires.owned in
    let shown = c.shown_there.result in
    let whole = (reached_code w c.args._code.now c.requires.reached.0 f c.requires.reached.1).0.position.position in
    c.of_cards-shown.ensures.shown w.kind (board_of_code w.start c.args._code.now) whole
    (subst (λ (u : Frame). IsShown u.kind (board_of_code u.start c.args._code.now) shown.number shown.note) here
    (shown_at v walk.position walk.last c.args._code.now shown.number shown.note (subst IsFrame (sym here) f) c.shown_there.ensures.fits c.requires.at
    c.shown_there.ensures.shown c.shown_there.ensures.here))
