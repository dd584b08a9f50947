use Rattle.std.proofs.Common.{◌≡◌, ◌≤◌}
use Rattle.fc_best.specs.inner.Standing.{Stands}
use Rattle.fc_best.specs.inner.Watch.{HearsOn}
use Rattle.fc_best.proofs.standings.Standing.shortened.Given as goal

-- what the searches so far have found is so, something is left for the last one, and what was heard of them is so and got no worse
abbrev pub invariant-loop-i : goal.invariant-loop-i
invariant-loop-i g l =
    Stands l.question l.position l.standing × (1 ≤ l.standing.left) × (l.standing.has_table ≡ l.fn.self.has_table)
    × HearsOn g.L.Listener.hears l.question l.position l.fn.self l.standing l.initial.listener l.listener
