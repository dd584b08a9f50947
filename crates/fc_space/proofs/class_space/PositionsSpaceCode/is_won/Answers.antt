use Rattle.fc_space.specs.Children.{frame_of}
use Rattle.fc_codes.specs.Spelled.{board_of_code}
use Rattle.fc_space.proofs.ChildLemmas.{IsFrame, reached_code}
use Rattle.fc_space.proofs.WonLemmas.{won_told}
use Rattle.fc_space.proofs.class_space.PositionsSpaceCode.is_won.Goals as goal

pub returns : goal.returns
returns g c =
    let own = c.args.self.now in
    let w = frame_of (g.G.Game.game own.rules.game) own.rules.rule own.rules.kind own.start in
    let f : IsFrame w = record { sound = g.met.G.Game.sound own.rules.game; fits = own.fits } in
    let x = c.args.code.now in
    let valid = (reached_code w x c.requires.reached.0 f c.requires.reached.1).0 in
    record {
      value = won_told w.start (board_of_code w.start x) x c.all_home.result c.eq.result valid.position.position valid.coded
          c.all_home.ensures.value c.all_home.ensures.count c.eq.ensures;
    }
