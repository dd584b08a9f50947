-- What the laws of this crate state.
use Rattle.std.specs.Prelude.{◌≡◌}
use Rattle.fc_bound.specs.declared.kinds.BoundKind.{BoundKind}
use Rattle.fc_best_first.specs.declared.strategies.Expansion.{Expansion}
use Rattle.fc_words.specs.Names.{bound_name, colours_name, expansion_name, game_name, task_name}
use Rattle.fc_words.specs.declared.forms.Colours.{Colours}
use Rattle.fc_words.specs.declared.game_names.GameName.{GameName}
use Rattle.fc_words.specs.declared.tasks.Task.{Task}
use Rattle.fc_words.specs.declared.options.TheConstants.{MOST_CELLS}

-- no two games have one name
abbrev pub GamesHaveTheirOwnNames : Type 0
GamesHaveTheirOwnNames = (a b : GameName) → game_name a ≡ game_name b → a ≡ b

-- no two bounds have one name
abbrev pub BoundsHaveTheirOwnNames : Type 0
BoundsHaveTheirOwnNames = (a b : BoundKind) → bound_name a ≡ bound_name b → a ≡ b

-- no two expansions have one name
abbrev pub ExpansionsHaveTheirOwnNames : Type 0
ExpansionsHaveTheirOwnNames = (a b : Expansion) → expansion_name a ≡ expansion_name b → a ≡ b

-- no two choices of colours have one name
abbrev pub ColoursHaveTheirOwnNames : Type 0
ColoursHaveTheirOwnNames = (a b : Colours) → colours_name a ≡ colours_name b → a ≡ b

-- no two subcommands have one name
abbrev pub TasksHaveTheirOwnNames : Type 0
TasksHaveTheirOwnNames = (a b : Task) → task_name a ≡ task_name b → a ≡ b

-- the most cells of a game
abbrev pub NumbersAreTold : Type 0
NumbersAreTold = MOST_CELLS ≡ 4
