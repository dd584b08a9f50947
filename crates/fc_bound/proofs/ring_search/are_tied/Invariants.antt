use Rattle.std.proofs.Common.{◌<◌, ◌^◌}
use Rattle.fc_bound.proofs.ring_search.are_tied.Given as goal

abbrev pub invariant-loop-rest : goal.invariant-loop-rest
invariant-loop-rest l = l.rest < 2 ^ 52

abbrev pub decreases-loop-rest : goal.decreases-loop-rest
decreases-loop-rest l = l.rest
