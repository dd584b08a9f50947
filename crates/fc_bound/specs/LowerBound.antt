-- What any lower bound is.
use Rattle.std.specs.Prelude.{◌≡◌, ℕ, ◌≤◌, length, List}
use Rattle.fc_position.specs.Board.{Board}
use Rattle.fc_position.specs.Position.{IsPosition}
use Rattle.fc_moves.specs.declared.steps.Move.{Move}
use Rattle.fc_moves.specs.GameRules.{GameRules}
use Rattle.fc_moves.specs.Run.{Wins}
use Rattle.fc_moves.specs.Class.{SameClass}

-- a lower bound: in every game no list of moves that wins from a position is shorter, and boards of one class have the same
pub record IsLowerBound (low : Board → ℕ) : Type 0 where
  pub needed : (g : GameRules) (b : Board) (ms : List Move) → IsPosition b → Wins g b ms → low b ≤ length ms
  pub alike : (b c : Board) → SameClass b c → low b ≡ low c
