use Rattle.fc_replay.proofs.ReplayLoop.{SoFar}
use Rattle.fc_replay.proofs.replays.replay_as.Given as goal

-- the tokens so far have played and their pages are written, and the others are left
abbrev pub invariant-loop-token : goal.invariant-loop-token
invariant-loop-token g l =
    SoFar l.page (g.G.Game.game l.game) l.position l.text l.token-iterator.rest.now l.steps l.board
    (g.K.Sink.held l.initial.sink) (g.K.Sink.held l.sink) (g.K.Sink.has_failed l.initial.sink) (g.K.Sink.has_failed l.sink)
