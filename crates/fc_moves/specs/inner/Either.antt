-- One of two games, within the crate.
use Rattle.fc_moves.specs.GameRules.{GameRules, IsGame}
use Rattle.fc_moves.specs.Either.{game_of_either}
use Rattle.fc_moves.specs.declared.either.EitherGame.{EitherGame}
use Rattle.fc_moves.specs.declared.either.EitherGame.TheVariants.{One, Other}

-- it is a game, since both are
pub either_is_game : {A B : Type 0} (one : A → GameRules) (other : B → GameRules) → ((a : A) → IsGame (one a)) → ((b : B) → IsGame (other b))
    → (game : EitherGame A B) → IsGame (game_of_either one other game)
either_is_game one other first second (One a) = first a
either_is_game one other first second (Other b) = second b
