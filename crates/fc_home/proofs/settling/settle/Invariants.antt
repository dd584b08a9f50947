use Rattle.std.proofs.Common.{◌≡◌, ◌+◌, ◌-◌, length}
use Rattle.fc_position.specs.Position.{Fits}
use Rattle.fc_home.specs.inner.Known.{IsKnown}
use Rattle.fc_home.proofs.SettleLemmas.{total, SettlesAfter}
use Rattle.fc_home.proofs.settling.settle.Given as goal

-- the moves so far lead on to the position, each sends one card home, the position fits the game if it did before, and what
-- is known of it holds
abbrev pub invariant-loop-goer : goal.invariant-loop-goer
invariant-loop-goer g l = record {
  settles : SettlesAfter (g.G.Game.game l.game) l.rule l.initial.position l.moves.items l.position;
  count : length l.moves.items + total l.initial.position.homes ≡ total l.position.homes;
  fits : Fits (g.G.Game.game l.game).cells l.initial.position → Fits (g.G.Game.game l.game).cells l.position;
  known : IsKnown (g.G.Game.game l.game) l.position.homes l.known;
}

-- so many cards are not home
abbrev pub decreases-loop-goer : goal.decreases-loop-goer
decreases-loop-goer g l = 52 - total l.position.homes
