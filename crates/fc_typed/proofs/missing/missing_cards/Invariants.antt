use Rattle.std.proofs.Common.{◌≤◌, length}
use Rattle.fc_typed.specs.Guess.{AreMissingBelow}
use Rattle.fc_typed.proofs.missing.missing_cards.Given as goal

-- the cards so far that are missing are told
abbrev pub invariant-loop-index : goal.invariant-loop-index
invariant-loop-index l = record {
  few : length l.cards.items ≤ l.index;
  told : AreMissingBelow l.text l.index l.cards.items;
}
