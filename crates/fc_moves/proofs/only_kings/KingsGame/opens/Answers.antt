use Rattle.std.proofs.Common.{arith}
use Rattle.fc_moves.proofs.GameLemmas.{kings_open}
use Rattle.fc_moves.proofs.only_kings.KingsGame.opens.Goals as goal

pub returns : goal.returns
returns g c = record {
  value =
      rw c.rank.ensures.value (kings_open (g.G.Game.game c.args.self.now.inner) c.args.card (omega (arith, c.rank.ensures.within.greatest)));
}
