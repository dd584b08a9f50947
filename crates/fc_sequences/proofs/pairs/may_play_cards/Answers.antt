use Rattle.fc_sequences.proofs.CountLemmas.{columns_played}
use Rattle.fc_sequences.proofs.pairs.may_play_cards.Goals as goal

pub returns-in-Column-Column : goal.returns-in-Column-Column
returns-in-Column-Column g c = record {
  value = columns_played _ _ _ _ _ _ _ _ c.in-Column-Column.is-0 c.in-Column-Column.is-1 c.may_carry.ensures.value;
}
