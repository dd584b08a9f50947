use Rattle.std.proofs.Common.{◌≡◌, ◌≤◌}
use Rattle.fc_best.specs.inner.Standing.{Stands}
use Rattle.fc_best.specs.inner.Watch.{HearsOn}
use Rattle.fc_best.proofs.schedule.after_stage.Given as goal

-- what the searches so far have found is so, something is left for the last one, and what was heard of them is so and got no worse
abbrev pub invariant-loop : goal.invariant-loop
invariant-loop g l =
    Stands l.question l.position l.after × (1 ≤ l.after.left) × (l.after.has_table ≡ l.fn.standing.has_table)
    × HearsOn g.L.Listener.hears l.question l.position l.fn.standing l.after l.initial.listener l.listener
