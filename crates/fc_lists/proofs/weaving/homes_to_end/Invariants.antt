use Rattle.std.proofs.Common.{◌-◌}
use Rattle.std.specs.Prelude.{All}
use Rattle.fc_moves.specs.GameRules.{IsPositionOf}
use Rattle.fc_moves.specs.Run.{Run}
use Rattle.fc_lists.proofs.WeaveLemmas.{total}
use Rattle.fc_lists.specs.Weaving.{IsMoveHome}
use Rattle.fc_lists.proofs.weaving.homes_to_end.Given as goal

-- the moves so far are moves home, and lead to the board
abbrev pub invariant-loop-home : goal.invariant-loop-home
invariant-loop-home g l = record {
  position : IsPositionOf (g.G.Game.game l.game) l.board;
  home : All IsMoveHome l.homes.items;
  run : Run (g.G.Game.game l.game) l.position l.homes.items l.board;
}

-- so many cards are not home
abbrev pub decreases-loop-home : goal.decreases-loop-home
decreases-loop-home g l = 52 - total l.board.homes
