use Rattle.std.proofs.Common.{ℕ, ◌<◌, ◌⊎◌, get_or}
use Rattle.fc_cards.specs.Card.{rank}
use Rattle.fc_position.specs.Board.{IsHome}
use Rattle.fc_home.specs.HomeRule.{IsFree}
use Rattle.fc_home.specs.inner.Known.{IsKnown}
use Rattle.fc_home.proofs.rules.+is_free.Given as goal

-- a card that may stand on another is of a lower rank
abbrev pub decreases-is_free : goal.decreases-is_free
decreases-is_free g l = rank l.card

-- each of the cards so far is home or free, and what is known holds
abbrev pub invariant-loop-host : goal.invariant-loop-host
invariant-loop-host g l = record {
  looked : (k d : ℕ) → k < l.host-index
      → IsHome l.position.homes (get_or l.host-items k d) ⊎ IsFree (g.G.Game.game l.game) l.position.homes (get_or l.host-items k d);
  known : IsKnown (g.G.Game.game l.game) l.position.homes l.known;
}
