-- Positions: the boards of a game, on which each of the 52 cards has exactly one place.
use Rattle.std.specs.Prelude.{◌≡◌, ℕ, ◌<◌, ◌≤◌, length, [], ◌∷◌, None}
use Rattle.fc_position.specs.Board.{Board, places, cell}

-- eight columns, four cells and four counts
pub record IsShaped (b : Board) : Type 0 where
  pub columns : length b.columns ≡ 8
  pub cells : length b.cells ≡ 4
  pub homes : length b.homes ≡ 4

-- eight columns, four cells, four counts, and one place for each card
pub record IsPosition (b : Board) : Type 0 where
  pub columns : length b.columns ≡ 8
  pub cells : length b.cells ≡ 4
  pub homes : length b.homes ≡ 4
  pub once : (c : ℕ) → c < 52 → places b c ≡ 1
  pub no_other : (c : ℕ) → 52 ≤ c → places b c ≡ 0

-- every card is home
abbrev pub IsWon : Board → Type 0
IsWon b = b.homes ≡ 13 ∷ 13 ∷ 13 ∷ 13 ∷ []

-- the board fits a game with n cells: the cells past them are empty
abbrev pub Fits : ℕ → Board → Type 0
Fits n b = (i : ℕ) → n ≤ i → cell b i ≡ None
