use Rattle.fc_canonical.specs.inner.Distinct.{IsLoneBelow}
use Rattle.fc_canonical.proofs.distinct.has_lone.Given as goal

-- none of the columns so far has one card alone, which may go to an empty column
abbrev pub invariant-loop-k : goal.invariant-loop-k
invariant-loop-k g l = IsLoneBelow (g.G.Game.game l.game) l.position l.k → ⊥
