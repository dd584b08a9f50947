-- Tallies: how often each card was counted, and what is wrong where one wasn't counted once, within the crate.
use Rattle.std.specs.Prelude.{◌<◌, All, IfSome}
use Rattle.fc_position.specs.Board.{Board}
use Rattle.fc_position.specs.Tally.{AllCards}

-- what lies on the board are cards
pub record IsOfCards (b : Board) : Type 0 where
  pub columns : All AllCards b.columns
  pub cells : All (λ cell. IfSome cell (λ c. c < 52)) b.cells
