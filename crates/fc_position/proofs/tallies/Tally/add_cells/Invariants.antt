use Rattle.std.proofs.Common.{◌<◌, take}
use Rattle.std.specs.Prelude.{All, IfSome, sum_by}
use Rattle.fc_position.specs.Board.{count_in_cell}
use Rattle.fc_position.specs.Tally.{Adds}
use Rattle.fc_position.proofs.tallies.Tally.add_cells.Given as goal

-- the cells so far are counted
abbrev pub invariant-loop-cell : goal.invariant-loop-cell
invariant-loop-cell l = record {
  added : Adds (λ c. sum_by (count_in_cell c) (take l.cell-index l.cells)) l.initial.self l.self;
  below : All (λ cell. IfSome cell (λ c. c < 52)) (take l.cell-index l.cells);
}
