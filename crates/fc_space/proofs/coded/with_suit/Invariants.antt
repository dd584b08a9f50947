use Rattle.std.proofs.Common.{◌≡◌, ◌≤◌}
use Rattle.fc_cards.specs.Suit.{suit_index}
use Rattle.fc_space.proofs.SentLemmas.{SoFar}
use Rattle.fc_space.proofs.coded.with_suit.Given as goal

-- so far the cards up to this rank have the state 1
abbrev pub invariant-loop-rank : goal.invariant-loop-rank
invariant-loop-rank l = SoFar l.initial.code l.code (suit_index l.suit) l.low l.rank × (l.high ≤ l.low → l.rank ≡ l.low)
