use Rattle.std.proofs.Common.{◌-◌}
use Rattle.fc_moves.specs.GameRules.{IsPositionOf}
use Rattle.fc_lists.proofs.WeaveLemmas.{total}
use Rattle.fc_lists.specs.inner.Ways.{WeavesOn}
use Rattle.fc_lists.proofs.weaving.send_home_for.Given as goal

-- the moves so far are woven, as they were before
abbrev pub invariant-loop-board : goal.invariant-loop-board
invariant-loop-board g l = record {
  position : IsPositionOf (g.G.Game.game l.game) l.board;
  woven : WeavesOn (g.G.Game.game l.game) l.e l.initial.moves.items l.initial.board l.moves.items l.board;
}

-- so many cards are not home
abbrev pub decreases-loop-board : goal.decreases-loop-board
decreases-loop-board g l = 52 - total l.board.homes
