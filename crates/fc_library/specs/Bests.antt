-- What the best answers of boards promise, told in memory.
use Rattle.std.specs.Prelude.{ℕ, List}
use Rattle.fc_position.specs.Board.{Board}
use Rattle.fc_best_first.specs.Limits.{IsGreatBudget}
use Rattle.fc_methods.specs.Method.{QuestionData, best_method}
use Rattle.fc_methods.specs.declared.methods.Sought.TheVariants.{Best}
use Rattle.fc_library.specs.Answers.{IsAnswerCertified, IsAnswerTold}
use Rattle.fc_library.specs.Boards.{IsTextFault, SpellsOnceTidy}
use Rattle.fc_library.specs.Games.{IsNamed, game_named}
use Rattle.fc_library.specs.declared.game_names.GameName.{GameName}
use Rattle.fc_library.specs.declared.told_answers.Certified.{Certified}
use Rattle.fc_library.specs.declared.told_answers.Told.{Told}
use Rattle.fc_library.specs.declared.call_refusals.CallRefusal.{CallRefusal}
use Rattle.fc_library.specs.declared.call_refusals.CallRefusal.TheVariants as refused

-- the question of a best answer in a game that is named, by home rule 2
abbrev pub asked_best : GameName → ℕ → QuestionData
asked_best name budget = record { game = game_named name; sought = Best; method = best_method 2 budget }

-- what is asked can be: the game is one, the budget is one, and the text spells the position
pub record CanBeAsked (name : GameName) (text : List ℕ) (budget : ℕ) (start : Board) : Type 0 where
  pub named : IsNamed name
  pub budgeted : IsGreatBudget budget
  pub spelled : SpellsOnceTidy name.cells text start

-- a board was answered, by its best verdict
abbrev pub IsBestTold : GameName → List ℕ → ℕ → Told → Type 0
IsBestTold name text budget told = (start : Board) × CanBeAsked name text budget start × IsAnswerTold (asked_best name budget) start told

-- and by its certificate
abbrev pub IsBestCertified : GameName → List ℕ → ℕ → Certified → Type 0
IsBestCertified name text budget told = (start : Board) × CanBeAsked name text budget start × IsAnswerCertified (asked_best name budget) start told

-- why a board wasn't answered, each fault only where those before it have no cause
abbrev pub IsBestRefused : GameName → List ℕ → ℕ → CallRefusal → Type 0
IsBestRefused name text budget refused.Game = IsNamed name → ⊥
IsBestRefused name text budget refused.Budget = IsNamed name × (IsGreatBudget budget → ⊥)
IsBestRefused name text budget (refused.Board fault) = IsNamed name × IsGreatBudget budget × IsTextFault name.cells text fault
IsBestRefused name text budget refused.Memory = (start : Board) × CanBeAsked name text budget start
IsBestRefused name text budget other = ⊥
