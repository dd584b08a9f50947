use Rattle.fc_space.proofs.WantedLemmas.{idle_but}
use Rattle.fc_space.proofs.visits.wanted_cards.Goals as goal

pub returns : goal.returns
returns c = record {
  idle = λ from u card none.
      let b = c.args.position.now in
      idle_but b c.args.note c.held.result c.next_cards-next.result c.covers.result from u (c.held.ensures.value b c.requires.table)
      c.next_cards-next.ensures.value (c.covers.ensures.value b c.requires.whole c.requires.table u) card none;
}
