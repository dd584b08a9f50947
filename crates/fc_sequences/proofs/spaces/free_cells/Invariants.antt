use Rattle.std.proofs.Common.{◌≡◌}
use Rattle.std.specs.Prelude.{filter, is_none}
use Rattle.std.specs.List.{range_with_len}
use Rattle.fc_position.specs.Board.{cell}
use Rattle.fc_sequences.proofs.spaces.free_cells.Given as goal

abbrev pub invariant-loop-i : goal.invariant-loop-i
invariant-loop-i g l = l.cells.items ≡ filter (λ a. is_none (cell l.position a)) (range_with_len 0 l.i)
