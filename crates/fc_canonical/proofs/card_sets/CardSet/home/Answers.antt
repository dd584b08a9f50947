use Rattle.fc_canonical.proofs.SetLemmas.{home_times, home_below}
use Rattle.fc_canonical.proofs.card_sets.CardSet.home.Goals as goal

pub invariant_of-result : goal.invariant_of-result
invariant_of-result c =
    home_below c.lowest-clubs.result c.lowest-diamonds.result c.lowest-hearts.result c.lowest-spades.result

pub returns : goal.returns
returns c = record {
  value = home_times c.args.counts.now c.lowest-clubs.result c.lowest-diamonds.result c.lowest-hearts.result c.lowest-spades.result
      c.requires.count c.requires.most c.lowest-clubs.ensures.value c.lowest-diamonds.ensures.value c.lowest-hearts.ensures.value
      c.lowest-spades.ensures.value;
}
