use Rattle.std.proofs.Common.{ℕ, ◌<◌, get_or}
use Rattle.fc_position.specs.Board.{Board}
use Rattle.fc_moves.specs.Step.{Allows}
use Rattle.fc_sequences.proofs.layers.all_allow.Given as goal

-- the boards so far allow the move
abbrev pub invariant-loop-board : goal.invariant-loop-board
invariant-loop-board g l = (k : ℕ) (d : Board) → k < l.board-index → Allows (g.G.Game.game l.game) (get_or l.boards k d) l.m
