use Rattle.std.proofs.Common.{take}
use Rattle.fc_position.specs.Board.{count_in_column}
use Rattle.fc_position.specs.Tally.{Adds, AllCards}
use Rattle.fc_position.proofs.tallies.Tally.add_column.Given as goal

-- the cards so far are counted
abbrev pub invariant-loop-card : goal.invariant-loop-card
invariant-loop-card l = record {
  added : Adds (λ c. count_in_column c (take l.card-index l.cards)) l.initial.self l.self;
  below : AllCards (take l.card-index l.cards);
}
