-- One of two games.
use Rattle.fc_moves.specs.GameRules.{GameRules}
use Rattle.fc_moves.specs.declared.either.EitherGame.{EitherGame}
use Rattle.fc_moves.specs.declared.either.EitherGame.TheVariants.{One, Other}

-- the rules of the game that it is
abbrev pub game_of_either : {A B : Type 0} → (A → GameRules) → (B → GameRules) → EitherGame A B → GameRules
game_of_either one other (One a) = one a
game_of_either one other (Other b) = other b
