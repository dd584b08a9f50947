use Rattle.std.proofs.Common.{drop}
use Rattle.fc_replay.proofs.ListLoop.{OnTheWay}
use Rattle.fc_replay.proofs.plays.play.Given as goal

-- the moves so far were made and their pages are written, and the others run on
abbrev pub invariant-loop-m : goal.invariant-loop-m
invariant-loop-m g l =
    OnTheWay l.page (g.G.Game.game l.game) l.position l.moves (drop l.m-index l.moves) l.steps l.board
    (g.K.Sink.held l.initial.sink) (g.K.Sink.held l.sink) (g.K.Sink.has_failed l.initial.sink) (g.K.Sink.has_failed l.sink)
