use Rattle.fc_sequences.proofs.PartLemmas.{part_gathered}
use Rattle.fc_sequences.proofs.RunLemmas.{where_ok}
use Rattle.fc_sequences.proofs.gathers.add_entry.Goals as goal

pub returns-clause-added : goal.returns-clause-added
returns-clause-added g c =
    where_ok c.play_pair.result c.play_pair.ensures.played (λ plays ms is. (
      c.pair_of-pair.result,
      c.in_ok-push.ensures.items,
      part_gathered (g.G.Game.game c.args.game.now) c.args.position.now c.play_pair.new.position ms c.args.part c.pair_of-pair.result
          (g.met.G.Game.sound c.args.game.now) c.requires.fits is c.pair_of-pair.ensures.from c.pair_of-pair.ensures.to c.pair_of-pair.ensures.told plays,
    ))
