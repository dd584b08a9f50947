use Rattle.std.proofs.Common.{◌+◌, ◌≤◌, take}
use Rattle.fc_batch.specs.Batch.{TurnsFor, work_left}
use Rattle.fc_batch.proofs.batches.Batch.turns.Given as goal

-- the numbers so far had their turns
abbrev pub invariant-loop-i : goal.invariant-loop-i
invariant-loop-i g l = TurnsFor (take l.i-index l.list) l.initial.self l.self l.running × (l.running ≤ l.i-index)
    × (work_left l.self + l.running ≤ work_left l.initial.self)
