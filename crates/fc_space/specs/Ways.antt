-- Which moves lead to a class.
use Rattle.std.specs.Prelude.{ℕ, ◌+◌, ◌≤◌, List}
use Rattle.fc_position.specs.Board.{Board}
use Rattle.fc_moves.specs.declared.steps.Move.{Move}
use Rattle.fc_moves.specs.Step.{Step}
use Rattle.fc_classes.specs.Namings.{by_codes}
use Rattle.fc_classes.specs.Classes.{SettlesTo}
use Rattle.fc_space.specs.Children.{Frame}

-- a step from the board leads to one that settles in so many moves to one with the code
abbrev pub StepsTo : Frame → Board → List ℕ → Move → ℕ → Type 0
StepsTo w b code m count = (z : Board) × Step w.game b m z × SettlesTo (by_codes w.start) w.game w.rule z count code

-- a step from the board, with the home moves that follow it, leads to the code by at most so many moves
abbrev pub LeadsWithin : Frame → Board → List ℕ → ℕ → Move → Type 0
LeadsWithin w b code most m = (count : ℕ) × StepsTo w b code m count × (1 + count ≤ most)
