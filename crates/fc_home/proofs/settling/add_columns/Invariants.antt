use Rattle.std.proofs.Common.{◌<◌}
use Rattle.fc_position.specs.Board.{IsNext}
use Rattle.fc_position.specs.Position.{IsPosition}
use Rattle.fc_home.specs.inner.Nexts.{HasNexts}
use Rattle.fc_home.proofs.settling.add_columns.Given as goal

-- the next cards of the columns so far; looking at one has told that the position is one
abbrev pub invariant-loop-i : goal.invariant-loop-i
invariant-loop-i l = record {
  nexts : HasNexts (IsNext l.position.homes) l.position l.i l.nexts;
  whole : 0 < l.i → IsPosition l.position;
}
