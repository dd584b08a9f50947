-- Moves of cards that go home by themselves.
use Rattle.std.specs.Prelude.{◌≡◌, ◌⊎◌, ℕ, ◌+◌, List, [], ◌∷◌}
use Rattle.fc_position.specs.Board.{Board}
use Rattle.fc_moves.specs.declared.steps.Move.{Move}
use Rattle.fc_moves.specs.GameRules.{GameRules}
use Rattle.fc_moves.specs.Step.{Step}
use Rattle.fc_review.specs.Hands.{GoesByItself}

-- of the moves, made one by one from the board, so many take a card home that goes there by itself
abbrev pub GoByThemselves : ℕ → GameRules → Board → List Move → ℕ → Type 0
GoByThemselves rule g b [] count = count ≡ 0
GoByThemselves rule g b (m ∷ ms) count = (mid : Board) × Step g b m mid
    × ((GoesByItself rule g b m.from m.to × ((others : ℕ) × (count ≡ others + 1) × GoByThemselves rule g mid ms others))
    ⊎ ((GoesByItself rule g b m.from m.to → ⊥) × GoByThemselves rule g mid ms count))
