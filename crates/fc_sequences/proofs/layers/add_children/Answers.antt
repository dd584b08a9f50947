use Rattle.std.proofs.Common.{arith}
use Rattle.fc_sequences.proofs.CountLemmas.{played_few}
use Rattle.fc_sequences.proofs.GrowLemmas.{growing_next}
use Rattle.fc_sequences.proofs.layers.add_children.Goals as goal

pub returns : goal.returns
returns g c = record {
  grown = λ before stands growing.
      growing_next _ before _ _ _ _ (c.loop-count.invariant before stands growing)
      (λ b d k plays. let few = played_few _ b _ k d (g.met.G.Game.sound c.args.game.now) plays in (few.0, omega (arith, few.1)));
}
