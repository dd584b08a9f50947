use Rattle.fc_sequences.specs.inner.Layers.{IsGrowing}
use Rattle.fc_sequences.proofs.layers.linked_layer.Given as goal

-- the boards that come from those so far are there
abbrev pub invariant-loop-parent : goal.invariant-loop-parent
invariant-loop-parent g l = IsGrowing (g.G.Game.game l.game) l.boards l.pair l.growth (l.parent, 1)
