use Rattle.fc_space.proofs.WantedLemmas.{next_bits}
use Rattle.fc_space.proofs.visits.next_cards.Goals as goal

pub returns : goal.returns
returns c = record {
  value = next_bits c.args.position.now.homes c.next_of.result c.next_of-2.result c.next_of-3.result c.next_of-4.result
      c.next_of.ensures.value c.next_of-2.ensures.value c.next_of-3.ensures.value c.next_of-4.ensures.value;
}
