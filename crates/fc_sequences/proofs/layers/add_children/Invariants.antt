use Rattle.fc_sequences.specs.inner.Layers.{GrowsOn}
use Rattle.fc_sequences.proofs.layers.add_children.Given as goal

-- by the numbers of cards so far all boards are there
abbrev pub invariant-loop-count : goal.invariant-loop-count
invariant-loop-count g l = GrowsOn (g.G.Game.game l.game) l.pair l.board (l.initial.growth, (l.parent, 1)) (l.growth, (l.parent, l.count))
