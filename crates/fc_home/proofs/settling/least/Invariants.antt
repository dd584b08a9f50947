use Rattle.fc_home.specs.inner.Nexts.{IsLeastBelow}
use Rattle.fc_home.proofs.settling.least.Given as goal

-- the first of the cards so far
abbrev pub invariant-loop-goer : goal.invariant-loop-goer
invariant-loop-goer l = IsLeastBelow l.goer-index l.nexts l.first
