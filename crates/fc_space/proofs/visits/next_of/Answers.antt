use Rattle.std.proofs.Common.{◌+◌, ◌*◌, arith}
use Rattle.fc_cards.specs.Suit.{suit_index}
use Rattle.fc_space.proofs.WantedLemmas.{next_bit}
use Rattle.fc_space.proofs.visits.next_of.Goals as goal

pub returns : goal.returns
returns c =
    let home = c.home.ensures in
    let own = c.index.ensures in record {
      value = next_bit c.args.position.now.homes (suit_index c.args.suit) (4 * c.home.result + c.index.result)
          (omega (arith, home.value, own.value)) (omega (arith, own.value, own.below)) (omega (arith, home.most, own.below));
    }
