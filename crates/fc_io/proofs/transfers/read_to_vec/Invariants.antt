use Rattle.std.proofs.Common.{◌≡◌, ◌≤◌, ◌-◌, false, vec_len}
use Rattle.fc_io.specs.Moves.{Gives}
use Rattle.fc_io.proofs.transfers.read_to_vec.Given as goal

abbrev pub invariant-loop-bytes : goal.invariant-loop-bytes
invariant-loop-bytes g l = record {
  sound : g.S.Source.has_failed l.source ≡ false;
  within : vec_len l.bytes ≤ l.limit;
  given : Gives (g.S.Source.told l.initial.source) (g.S.Source.told l.source) l.bytes.items;
}

abbrev pub decreases-loop-bytes : goal.decreases-loop-bytes
decreases-loop-bytes g l = l.limit - vec_len l.bytes
