-- How a sequence is carried card by card: over free cells, and by halves over spare columns.
use Rattle.std.specs.Prelude.{◌≡◌, ℕ, ◌+◌, ◌-◌, ◌*◌, ◌^◌, nat_le, cond, zero, suc, List, ◌++◌}
use Rattle.fc_position.specs.Board.{Board}
use Rattle.fc_moves.specs.declared.steps.Move.{Move}
use Rattle.fc_moves.specs.GameRules.{GameRules}
use Rattle.fc_moves.specs.Run.{Run}

-- how many cards so many free cells and so many spare columns can do
abbrev pub most_cards : ℕ → ℕ → ℕ
most_cards cells columns = (cells + 1) * 2 ^ columns

-- how many one-card moves carry k cards over so many free cells and so many spare columns: over cells alone each card but one
-- goes to a cell and from there; with one column more, where there are more cards than the others can do, those that are too many
-- go to that column and from there, and the others by themselves
unfoldable pub carry_moves : ℕ → ℕ → ℕ → ℕ
carry_moves cells zero k = 2 * k - 1
carry_moves cells (suc columns) k = cond (nat_le k (most_cards cells columns)) (carry_moves cells columns k)
    (2 * carry_moves cells columns (k - most_cards cells columns) + carry_moves cells columns (most_cards cells columns))

-- the list became longer by moves that run from the one board to the other
abbrev pub AddsRun : GameRules → Board → List Move → Board → List Move → Type 0
AddsRun g b old c new = (ms : List Move) × (new ≡ old ++ ms) × Run g b ms c
