use Rattle.std.proofs.Common.{take, map}
use Rattle.std.specs.Prelude.{All, sum_by}
use Rattle.fc_position.specs.Board.{count_in_column}
use Rattle.fc_position.specs.Tally.{Adds, AllCards}
use Rattle.fc_position.proofs.tallies.Tally.add_columns.Given as goal

-- the columns so far are counted
abbrev pub invariant-loop-column : goal.invariant-loop-column
invariant-loop-column l = record {
  added : Adds (λ c. sum_by (count_in_column c) (take l.column-index (map (λ v. v.items) l.columns))) l.initial.self l.self;
  below : All AllCards (take l.column-index (map (λ v. v.items) l.columns));
}
