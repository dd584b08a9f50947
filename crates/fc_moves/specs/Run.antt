-- Lists of moves, what they lead to, and what the answers of a solver claim.
use Rattle.std.specs.Prelude.{◌≡◌, ◌≢◌, ℕ, ◌+◌, ◌≤◌, length, List, [], ◌∷◌, All, AllPairs}
use Rattle.fc_position.specs.Board.{Board}
use Rattle.fc_position.specs.Position.{IsWon}
use Rattle.fc_moves.specs.declared.steps.Move.{Move}
use Rattle.fc_moves.specs.GameRules.{GameRules}
use Rattle.fc_moves.specs.Step.{Step}

-- the moves are steps, one by one, from the one board to the other
abbrev pub Run : GameRules → Board → List Move → Board → Type 0
Run g b [] c = c ≡ b
Run g b (m ∷ ms) c = (mid : Board) × Step g b m mid × Run g mid ms c

-- the list wins: it runs to a board on which every card is home
abbrev pub Wins : GameRules → Board → List Move → Type 0
Wins g b ms = (c : Board) × Run g b ms c × IsWon c

-- some list of so many moves wins from the board
abbrev pub WinsIn : GameRules → Board → ℕ → Type 0
WinsIn g b count = (ms : List Move) × (length ms ≡ count) × Wins g b ms

-- some list of at most so many moves wins from the board
abbrev pub WinsWithin : GameRules → Board → ℕ → Type 0
WinsWithin g b most = (ms : List Move) × (length ms ≤ most) × Wins g b ms

-- the list wins, and no list that wins is shorter
pub record IsShortest (g : GameRules) (b : Board) (ms : List Move) : Type 0 where
  pub wins : Wins g b ms
  pub least : (others : List Move) → Wins g b others → length ms ≤ length others

-- no list of moves wins
abbrev pub CannotWin : GameRules → Board → Type 0
CannotWin g b = (ms : List Move) → Wins g b ms → ⊥

-- the board is where some list of moves leads
abbrev pub CanReach : GameRules → Board → Board → Type 0
CanReach g b c = (ms : List Move) × Run g b ms c

-- more boards than so many can be reached, no two of them the same
pub record ReachesMore (g : GameRules) (b : Board) (budget : ℕ) : Type 0 where
  pub boards : List Board
  pub count : length boards ≡ budget + 1
  pub different : AllPairs (λ x y. x ≢ y) boards
  pub reached : All (CanReach g b) boards
