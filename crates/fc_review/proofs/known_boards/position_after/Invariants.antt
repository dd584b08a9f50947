use Rattle.std.proofs.Common.{drop}
use Rattle.fc_moves.specs.GameRules.{IsPositionOf}
use Rattle.fc_best.proofs.TailLemmas.{OnTheWay}
use Rattle.fc_review.proofs.known_boards.position_after.Given as goal

-- the moves so far were made, and the others run on, from a position of the game
abbrev pub invariant-loop-m : goal.invariant-loop-m
invariant-loop-m g l =
    OnTheWay (g.G.Game.game l.game) l.position l.moves (drop l.m-index l.moves) l.board × IsPositionOf (g.G.Game.game l.game) l.board
