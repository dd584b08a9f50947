use Rattle.std.proofs.Common.{◌≡◌, ℕ, List, ◌++◌, length, false}
use Rattle.fc_io.specs.Moves.{TakesBytes}
use Rattle.fc_io.proofs.transfers.write_all.Given as goal

abbrev pub invariant-loop-rest : goal.invariant-loop-rest
invariant-loop-rest g l = record {
  sound : g.K.Sink.has_failed l.sink ≡ false;
  front : List ℕ;
  parts : l.piece ≡ front ++ l.rest;
  taken : TakesBytes (g.K.Sink.held l.initial.sink) (g.K.Sink.held l.sink) front;
}

abbrev pub decreases-loop-rest : goal.decreases-loop-rest
decreases-loop-rest g l = length l.rest
