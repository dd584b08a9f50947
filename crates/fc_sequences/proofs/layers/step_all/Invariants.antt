use Rattle.fc_sequences.specs.inner.Layers.{AreStepped}
use Rattle.fc_sequences.proofs.layers.step_all.Given as goal

-- on the boards so far the move was made
abbrev pub invariant-loop-place : goal.invariant-loop-place
invariant-loop-place g l = AreStepped (g.G.Game.game l.game) l.m l.initial.boards.items l.boards.items l.place
