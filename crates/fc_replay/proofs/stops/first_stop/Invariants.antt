use Rattle.fc_replay.proofs.StopLoop.{Found}
use Rattle.fc_replay.proofs.stops.first_stop.Given as goal

-- the tokens so far have played, and the others are left
abbrev pub invariant-loop-token : goal.invariant-loop-token
invariant-loop-token g l =
    Found (g.G.Game.game l.game) l.position l.text l.token-iterator.rest.now l.step l.board
