use Rattle.std.proofs.Common.{◌+◌}
use Rattle.fc_position.specs.Board.{IsNext}
use Rattle.fc_home.specs.inner.Nexts.{HasNexts}
use Rattle.fc_home.proofs.settling.add_cells.Given as goal

-- the next cards of the columns and of the cells so far
abbrev pub invariant-loop-i : goal.invariant-loop-i
invariant-loop-i l = HasNexts (IsNext l.position.homes) l.position (8 + l.i) l.nexts
