use Rattle.std.proofs.Common.{drop}
use Rattle.fc_lists.proofs.PlayedLemmas.{Underway}
use Rattle.fc_lists.proofs.list_plays.last_board.Given as goal

-- the moves so far were made, and the others run on
abbrev pub invariant-loop-m : goal.invariant-loop-m
invariant-loop-m g l = Underway (g.G.Game.game l.game) l.start l.moves (drop l.m-index l.moves) l.board
