use Rattle.fc_tests.proofs.codes.step.Goals as goal

pub position_of-spelled-requires : goal.position_of-spelled-requires
position_of-spelled-requires g c =
    let step = c.apply.ensures.step in
    record {
      code = (
        c.apply.new.position,
        c.apply.ensures.whole,
        c.moved-next.ensures.value c.apply.new.position step.card
            (record {
              position = c.moved-next.ensures.whole;
              coded = c.requires.code;
              playable = step.playable;
              game = g.G.Game.game c.args.game.now;
              sound = g.met.G.Game.sound c.args.game.now;
              step = step;
            }),
      );
    }

pub returns-clause-code : goal.returns-clause-code
returns-clause-code g c =
    let step = c.apply.ensures.step in
    c.moved-next.ensures.value c.apply.new.position step.card
    (record {
      position = c.moved-next.ensures.whole;
      coded = c.requires.code;
      playable = step.playable;
      game = g.G.Game.game c.args.game.now;
      sound = g.met.G.Game.sound c.args.game.now;
      step = step;
    })
