use Rattle.fc_bound.proofs.RingCode.{LeftOut}
use Rattle.fc_bound.proofs.columns_left.Left.ring.Given as goal

abbrev pub invariant-loop-rest : goal.invariant-loop-rest
invariant-loop-rest l = record { over : LeftOut l.self l.rest l.ring }

abbrev pub decreases-loop-rest : goal.decreases-loop-rest
decreases-loop-rest l = l.rest
