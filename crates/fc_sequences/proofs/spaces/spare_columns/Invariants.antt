use Rattle.std.proofs.Common.{◌≡◌}
use Rattle.std.specs.Prelude.{filter}
use Rattle.std.specs.List.{range_with_len}
use Rattle.fc_sequences.specs.Sequence.{is_spare}
use Rattle.fc_sequences.proofs.spaces.spare_columns.Given as goal

abbrev pub invariant-loop-i : goal.invariant-loop-i
invariant-loop-i l = l.columns.items ≡ filter (is_spare l.position l.to) (range_with_len 0 l.i)
