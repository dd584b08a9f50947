-- Boards that are a numbered deal once each column is turned round.
use Rattle.std.specs.Prelude.{◌≡◌, ℕ, ◌<◌, reverse}
use Rattle.fc_position.specs.Board.{Board, column}
use Rattle.fc_deal.specs.Deal.{IsDealNumber, dealt_board}

-- each column of the board is that of the numbered deal, turned round
pub record IsReversedDeal (n : ℕ) (b : Board) : Type 0 where
  pub number : IsDealNumber n
  pub turned : (i : ℕ) → i < 8 → column b i ≡ reverse (column (dealt_board n) i)
