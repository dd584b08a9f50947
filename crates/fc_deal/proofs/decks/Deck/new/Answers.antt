use Rattle.std.proofs.Common.{arith}
use Rattle.fc_deal.proofs.DealLemmas.{all_cards_are}
use Rattle.fc_deal.proofs.decks.Deck.new.Goals as goal

pub returns : goal.returns
returns c = record {
  whole =
      all_cards_are c.loop-index.cards c.loop-index.invariant.whole
      (λ k below. c.loop-index.invariant.by_number k (omega arith));
}
