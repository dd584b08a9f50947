use Rattle.std.proofs.Common.{◌≡◌, ◌≤◌, ◌-◌, length, take, false}
use Rattle.fc_io.specs.Moves.{Gives}
use Rattle.fc_io.proofs.transfers.read_up_to.Given as goal

abbrev pub invariant-loop-filled : goal.invariant-loop-filled
invariant-loop-filled g l = record {
  sound : g.S.Source.has_failed l.source ≡ false;
  within : l.filled ≤ length l.room;
  given : Gives (g.S.Source.told l.initial.source) (g.S.Source.told l.source) (take l.filled l.room);
}

abbrev pub decreases-loop-filled : goal.decreases-loop-filled
decreases-loop-filled g l = length l.initial.room - l.filled
