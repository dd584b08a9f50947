use Rattle.std.proofs.Common.{◌<◌, length, reverse, get_or, []}
use Rattle.fc_search.specs.inner.Walk.{IsWay}
use Rattle.fc_search.proofs.position_searches.Search.way_to.Given as goal

-- from the class that was come to, the way so far leads to the first one
abbrev pub invariant-loop-parent : goal.invariant-loop-parent
invariant-loop-parent g l = (l.number < length l.self.store.stored)
    × IsWay l.self.store l.number (reverse l.way.items) l.initial.number

-- a parent costs less
abbrev pub decreases-loop-parent : goal.decreases-loop-parent
decreases-loop-parent g l = (get_or l.self.store.stored l.number ([], record { cost = 0; parent = 0 })).1.cost
