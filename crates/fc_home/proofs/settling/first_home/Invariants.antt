use Rattle.std.proofs.Common.{is_some, count_by}
use Rattle.fc_home.specs.HomeRule.{GoesHome}
use Rattle.fc_home.specs.inner.Known.{IsKnown}
use Rattle.fc_home.specs.inner.Nexts.{HasNexts}
use Rattle.fc_home.proofs.settling.first_home.Given as goal

-- each playable card that goes home is still in the list, and what is known holds
abbrev pub invariant-loop-goer : goal.invariant-loop-goer
invariant-loop-goer g l = record {
  nexts : HasNexts (GoesHome l.rule (g.G.Game.game l.game) l.position.homes) l.position 12 l.nexts;
  known : IsKnown (g.G.Game.game l.game) l.position.homes l.known;
}

-- so many cards are in the list
abbrev pub decreases-loop-goer : goal.decreases-loop-goer
decreases-loop-goer g l = count_by is_some l.nexts
