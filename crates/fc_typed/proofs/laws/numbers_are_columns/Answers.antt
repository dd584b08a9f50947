use Rattle.fc_typed.proofs.NumberLemmas.{numbers}
use Rattle.fc_typed.proofs.laws.numbers_are_columns.Goals as goal

pub returns : goal.returns
returns c = numbers
