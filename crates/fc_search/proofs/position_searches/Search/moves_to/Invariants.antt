use Rattle.std.proofs.Common.{length, reverse}
use Rattle.fc_search.specs.inner.Walk.{IsAtClass, IsWay}
use Rattle.fc_search.proofs.position_searches.Search.moves_to.Given as goal

-- the walk is at a class from which the rest of the way leads to the one that is sought
abbrev pub invariant-loop-next : goal.invariant-loop-next
invariant-loop-next g l = IsAtClass l.self.problem.game l.self.store l.self.problem.start l.last l.made.items l.position
    × IsWay l.self.store l.last (reverse l.way.items) l.number

abbrev pub decreases-loop-next : goal.decreases-loop-next
decreases-loop-next g l = length l.way.items
