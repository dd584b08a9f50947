use Rattle.std.proofs.Common.{◌≡◌, map, take, ◌++◌}
use Rattle.std.specs.List.{flat_map}
use Rattle.fc_position.specs.Board.{column}
use Rattle.fc_canonical.specs.Key.{column_bytes}
use Rattle.fc_canonical.proofs.keys.write_columns.Given as goal

-- the columns of the numbers so far are written
abbrev pub invariant-loop-number : goal.invariant-loop-number
invariant-loop-number l = l.key.items ≡ l.initial.key.items ++ flat_map column_bytes (map (column l.position) (take l.number-index l.numbers))
