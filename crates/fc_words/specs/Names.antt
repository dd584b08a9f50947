-- What is called by which name.
use Rattle.std.specs.Prelude.{ℕ, Bool, true, false, List, codes}
use Rattle.fc_bound.specs.declared.kinds.BoundKind.{BoundKind}
use Rattle.fc_bound.specs.declared.kinds.BoundKind.TheVariants.{Plain, Clearing}
use Rattle.fc_best_first.specs.declared.strategies.Expansion.{Expansion}
use Rattle.fc_best_first.specs.declared.strategies.Expansion.TheVariants.{Full, Partial}
use Rattle.fc_words.specs.declared.forms.Colours.{Colours}
use Rattle.fc_words.specs.declared.forms.Colours.TheVariants.{Auto, Always, Never}
use Rattle.fc_words.specs.declared.game_names.GameName.{GameName}
use Rattle.fc_words.specs.declared.game_names.GameName.TheVariants.{FreeCell, Bakers}
use Rattle.fc_words.specs.declared.tasks.Task.{Task}
use Rattle.fc_words.specs.declared.tasks.Task.TheVariants.{Deal, Show, Best, Hint, Solve, Check, Replay, Review, Batch}

-- the name of a game
abbrev pub game_name : GameName → List ℕ
game_name FreeCell = codes "freecell"
game_name Bakers = codes "bakers"

-- the name of a bound
abbrev pub bound_name : BoundKind → List ℕ
bound_name Plain = codes "plain"
bound_name Clearing = codes "clearing"

-- the name of an expansion
abbrev pub expansion_name : Expansion → List ℕ
expansion_name Full = codes "full"
expansion_name Partial = codes "partial"

-- the expansion of a search by a bound that isn't told one
abbrev pub usual_expansion : BoundKind → Expansion
usual_expansion Plain = Full
usual_expansion Clearing = Partial

-- the name of a choice of colours
abbrev pub colours_name : Colours → List ℕ
colours_name Auto = codes "auto"
colours_name Always = codes "always"
colours_name Never = codes "never"

-- whether red suits are in red, on a terminal or not
abbrev pub are_shown : Colours → Bool → Bool
are_shown Auto is_terminal = is_terminal
are_shown Always is_terminal = true
are_shown Never is_terminal = false

-- the name of a subcommand
abbrev pub task_name : Task → List ℕ
task_name Deal = codes "deal"
task_name Show = codes "show"
task_name Best = codes "best"
task_name Hint = codes "hint"
task_name Solve = codes "solve"
task_name Check = codes "check"
task_name Replay = codes "replay"
task_name Review = codes "review"
task_name Batch = codes "batch"
